-- What only the contracts of loops cite. Assumes nothing.
pub mod Bytes
pub mod Passes
