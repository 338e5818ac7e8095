-- What the proofs of `written_card` share, and its theorems. Assumes nothing.
mod WriteLaws
mod RowLaws
pub mod RoundTrip
pub mod MoveLaws
