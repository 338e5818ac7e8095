-- What the contracts of `combining` cite. Assumes nothing.
pub mod Loops
