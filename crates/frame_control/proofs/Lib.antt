-- What the proofs of `frame_control` share, and its theorems. Assumes nothing.
pub mod FrameLaws
mod EntryLaws
