-- What the contracts and the theorems of `address_interleaver` cite. Assumes nothing.
pub mod Addresses
pub mod Loops
