-- What the contracts and the theorems of `payload_copying` cite. Assumes nothing.
pub mod Loops
