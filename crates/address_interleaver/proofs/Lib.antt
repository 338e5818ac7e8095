-- What the proofs of `address_interleaver` share, and its theorems. Assumes nothing.
pub mod AddressLaws
pub mod RoundLaws
mod WalkLaws
