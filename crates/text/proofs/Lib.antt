-- The laws of what `text` defines. Assumes nothing.
pub mod TextLaws
