-- What the proofs of `constellation` share, and its theorems. Assumes nothing.
pub mod MappingLaws
mod FactorLaws
pub mod EntryLaws
