-- What the proofs of `scrambler` share, and its theorems. Assumes nothing.
pub mod ScramblerLaws
