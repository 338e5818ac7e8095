-- What the proofs of `card` share, and its theorems. Assumes nothing.
pub mod ModeLaws
pub mod CopyLaws
pub mod GateLaws
mod CardLaws
mod ReadLaws
mod FieldLaws
