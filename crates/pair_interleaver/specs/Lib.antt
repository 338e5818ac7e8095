-- What the contracts and the theorems of `pair_interleaver` cite. Assumes nothing.
pub mod Interleave
pub mod Loops
