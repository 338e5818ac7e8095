-- What the contracts and the theorems of `diversity` cite. Assumes nothing.
pub mod Lanes
pub mod Copies
pub mod Loops
