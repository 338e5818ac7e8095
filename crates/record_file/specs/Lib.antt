-- What the contracts of `record_file` cite. Assumes nothing.
pub mod Reading
pub mod Counting
