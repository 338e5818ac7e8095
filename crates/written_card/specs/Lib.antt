-- What the contracts and the theorems of `written_card` cite. Assumes nothing.
pub mod Entries
pub mod Loops
