-- What the proofs of `bands` share, and its theorems. Assumes nothing.
pub mod BandLaws
mod UnitLaws
