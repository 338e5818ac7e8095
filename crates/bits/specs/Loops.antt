-- What only the contracts of loops cite. Assumes nothing.
pub mod Words
