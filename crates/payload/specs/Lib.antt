-- What the contracts and the theorems of `payload` cite. Assumes nothing.
pub mod Entries
pub mod Words
pub mod Loops
