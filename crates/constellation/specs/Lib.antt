-- What the contracts and the theorems of `constellation` cite. Assumes nothing.
pub mod Factors
pub mod Mapping
pub mod Entries
