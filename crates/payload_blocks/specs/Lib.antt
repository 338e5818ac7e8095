-- What the contracts and the theorems of `payload_blocks` cite. Assumes nothing.
pub mod Blockwise
pub mod Blocks
pub mod Loops
