-- What the proofs of `payload_blocks` share, and its theorems. Assumes nothing.
pub mod BlockwiseLaws
pub mod BlockLaws
mod BufferLaws
