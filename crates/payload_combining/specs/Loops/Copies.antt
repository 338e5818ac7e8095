-- What a bit's only copy decides, and what its two copies do. Assumes nothing.
use Rattle.std.specs.Prelude.{cond, ℕ, ◌+◌, eqb}
use Rattle.votes.specs.Votes.{majority}

-- the vote of an item for v
abbrev pub vote : ℕ → ℕ → ℕ
vote item v = cond (eqb item v) 1 0

unfoldable pub of_one : ℕ → ℕ
of_one a = majority (vote a 0) (vote a 1)

unfoldable pub of_two : ℕ → ℕ → ℕ
of_two a b = majority (vote a 0 + vote b 0) (vote a 1 + vote b 1)
