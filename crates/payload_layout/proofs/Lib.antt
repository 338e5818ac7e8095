-- What the proofs of `payload_layout` share, and its theorems. Assumes nothing.
pub mod OrderLaws
pub mod CountLaws
pub mod SectionLaws
pub mod CarriedLaws
pub mod LayoutLaws
pub mod ItemLaws
mod NumberLaws
