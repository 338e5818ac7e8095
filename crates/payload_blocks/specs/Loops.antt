-- What only loops and their proofs cite. Assumes nothing.
pub mod Parts
