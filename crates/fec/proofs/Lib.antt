-- What the proofs of `fec` share, and its theorems. Assumes nothing.
pub mod CodingLaws
pub mod RowLaws
