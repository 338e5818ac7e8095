-- What the contracts and the theorems of `payload_combining` cite. Assumes nothing.
pub mod Loops
