-- What the contracts and the theorems of `bands` cite. Assumes nothing.
pub mod Bands
pub mod Units
