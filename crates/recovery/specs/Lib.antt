-- What the contracts and the theorems of `recovery` cite. Assumes nothing.
pub mod Recovery
