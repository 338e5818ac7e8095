-- What the contracts and the theorems of `text` cite. Assumes nothing.
pub mod Text
