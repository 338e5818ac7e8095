-- What the proofs of `combining` share. Assumes nothing.
mod CounterLaws
