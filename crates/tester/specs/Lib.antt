-- What the contracts and the theorems of `tester` cite. Assumes nothing.
pub mod Call
