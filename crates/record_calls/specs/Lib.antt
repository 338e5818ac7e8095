-- What the contracts of `record_calls` cite. Assumes nothing.
pub mod Calls
