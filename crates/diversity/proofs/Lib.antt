-- What the proofs of `diversity` share, and its theorems. Assumes nothing.
pub mod LaneLaws
pub mod CopyLaws
pub mod LimitLaws
pub mod BandLaws
pub mod CycleLaws
