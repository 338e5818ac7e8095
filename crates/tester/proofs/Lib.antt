-- What the proofs of `tester` share, and its theorems. Assumes nothing.
mod CallLaws
