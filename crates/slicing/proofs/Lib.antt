-- What the proofs of `slicing` share, and its theorems. Assumes nothing.
mod DecisionLaws
mod EndLaws
mod NearestLevel
mod PaperWords
pub mod RoundTrip
mod EntryLaws
