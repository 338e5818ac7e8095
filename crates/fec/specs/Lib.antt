-- What the contracts and the theorems of `fec` cite. Assumes nothing.
pub mod Coding
