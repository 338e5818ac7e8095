-- What the proofs of `interleaver_shape` share, and its theorems. Assumes nothing.
pub mod ShapeLaws
