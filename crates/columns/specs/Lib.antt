-- What the contracts of `columns` cite. Assumes nothing.
pub mod Columns
pub mod Loops
