-- What the contracts of `job` cite. Assumes nothing.
pub mod Jobs
