-- What the proofs of `payload_copying` share, and its theorems. Assumes nothing.
pub mod SlottedLaws
pub mod CarrierLaws
pub mod ItemLaws
pub mod SlotLaws
pub mod SymbolLaws
mod OnceLaws
