-- What the contracts and the theorems of `interleaver` cite. Assumes nothing.
pub mod Rows
pub mod Source
pub mod Loops
