-- What only the contracts of loops cite. Assumes nothing.
pub mod Copies
pub mod Groups
