-- What the proofs of `votes` share, and its theorems. Assumes nothing.
pub mod VoteLaws
pub mod DamageLaws
pub mod CounterLaws
