-- What the contracts and the theorems of `payload_layout` cite. Assumes nothing.
pub mod Layouts
pub mod Items
pub mod Loops
