-- Four columns of bits of some height, filled column by column, and read in rows of four. Assumes nothing.
use Rattle.std.specs.Prelude.{ℕ, ◌+◌, ◌*◌, ◌/◌, ◌%◌}

-- element j of the rows of four columns, h bits each, filled column by column with the bits d
unfoldable pub rowed : ℕ → (ℕ → ℕ) → ℕ → ℕ
rowed h d j = d (j % 4 * h + j / 4)

-- bit k of the columns whose rows have the elements e
unfoldable pub unrowed : ℕ → (ℕ → ℕ) → ℕ → ℕ
unrowed h e k = e (k % h * 4 + k / h)
