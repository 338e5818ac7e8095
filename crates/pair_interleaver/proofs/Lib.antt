-- What the proofs of `pair_interleaver` share, and its theorems. Assumes nothing.
pub mod InterleaveLaws
mod GatherLaws
