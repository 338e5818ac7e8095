-- What the contracts and the theorems of `turbo` cite. Assumes nothing.
pub mod Puncture
pub mod Parity
pub mod Loops
