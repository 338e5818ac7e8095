-- What only the contracts of loops and the laws cite. Assumes nothing.
pub mod Bounds
