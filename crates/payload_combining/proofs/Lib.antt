-- What the proofs of `payload_combining` share. Assumes nothing.
mod NarrowLaws
mod OnceLaws
mod SpreadLaws
mod VoteLaws
