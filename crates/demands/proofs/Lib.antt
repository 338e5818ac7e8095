-- What the proofs of `demands` share, and its theorems. Assumes nothing.
pub mod Proved
