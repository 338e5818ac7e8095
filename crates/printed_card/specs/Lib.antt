-- What the contracts of `printed_card` cite. Assumes nothing.
pub mod Text
pub mod Short
