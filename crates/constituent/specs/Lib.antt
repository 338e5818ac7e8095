-- What the contracts and the theorems of `constituent` cite. Assumes nothing.
pub mod Pairs
pub mod Encoder
pub mod Loops
