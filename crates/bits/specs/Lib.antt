-- What the contracts and the theorems of `bits` cite. Assumes nothing.
pub mod Lists
pub mod Bits
pub mod Sums
pub mod Permutations
pub mod Ranges
pub mod Loops
