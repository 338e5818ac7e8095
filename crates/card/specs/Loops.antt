-- What only the code's own contracts cite. Assumes nothing.
pub mod Heads
