-- What the proofs of `interleaver` share, and its theorems. Assumes nothing.
pub mod InterleaverLaws
pub mod RowLaws
pub mod PassLaws
mod SourceLaws
mod WalkLaws
mod StreamLaws
mod NibbleLaws
mod PairLaws
