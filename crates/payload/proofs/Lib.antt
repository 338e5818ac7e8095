-- The laws of what `payload` defines. Assumes nothing.
pub mod ModeLaws
mod EntryLaws
mod BufferLaws
pub mod ReturnLaws
