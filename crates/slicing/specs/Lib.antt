-- What the contracts and the theorems of `slicing` cite. Assumes nothing.
pub mod Slicing
pub mod Distances
pub mod Ends
pub mod PaperWords
pub mod Carriers
pub mod Entries
