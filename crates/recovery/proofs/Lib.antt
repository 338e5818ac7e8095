-- What the proofs of `recovery` share, and its theorems. Assumes nothing.
pub mod RecoveryLaws
mod RowLaws
mod PartLaws
