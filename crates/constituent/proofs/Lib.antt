-- What the proofs of `constituent` share, and its theorems. Assumes nothing.
pub mod PairLaws
pub mod StateLaws
mod RingLaws
pub mod PassLaws
mod StepLaws
mod LinearLaws
mod ByteLaws
mod ChunkLaws
mod FoldLaws
