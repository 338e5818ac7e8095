-- What the proofs of `turbo` share, and its theorems. Assumes nothing.
pub mod PunctureLaws
pub mod ParityLaws
