-- What the contracts and the theorems of `votes` cite. Assumes nothing.
pub mod Votes
pub mod Damage
pub mod Loops
