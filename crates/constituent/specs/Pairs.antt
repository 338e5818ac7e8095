-- A block's data bits as pairs (u1, u2). A pair is a number below 4, u1 its higher bit. Assumes nothing.
use Rattle.std.specs.Prelude.{ℕ, ◌+◌, ◌*◌}
use Rattle.card.specs.Modes.{block_bytes}

-- the pairs of a block, L: four to a byte
abbrev pub pair_count : ℕ → ℕ
pair_count kind = 4 * block_bytes kind

-- pair t of the data bits d
unfoldable pub pair_at : (ℕ → ℕ) → ℕ → ℕ
pair_at d t = d (2 * t) * 2 + d (2 * t + 1)
