-- What the contracts and the theorems of `interleaver_shape` cite. Assumes nothing.
pub mod Shapes
pub mod Loops
