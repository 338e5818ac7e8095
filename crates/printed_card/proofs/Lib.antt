-- What the proofs of `printed_card` share, and its theorem. Assumes nothing.
pub mod LengthLaws
