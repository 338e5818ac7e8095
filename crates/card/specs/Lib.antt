-- What the contracts and the theorems of `card` cite. Assumes nothing.
pub mod Card
pub mod Modes
pub mod Entries
pub mod Gate
pub mod Loops
