-- What the contracts of `record` cite. Assumes nothing.
pub mod Expected
