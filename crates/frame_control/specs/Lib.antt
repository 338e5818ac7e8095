-- What the contracts and the theorems of `frame_control` cite. Assumes nothing.
pub mod Entries
pub mod Words
