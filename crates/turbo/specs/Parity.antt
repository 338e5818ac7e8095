-- The parity bits of a block that are kept, in order. Assumes nothing.
use Rattle.std.specs.Prelude.{ℕ, zero, suc, ◌/◌, ◌%◌}
use Rattle.constituent.specs.Pairs.{pair_at}
use Rattle.constituent.specs.Encoder.{parity_at}
use Rattle.pair_interleaver.specs.Interleave.{interleaved}
use Rattle.turbo.specs.Puncture.{kept_time}

-- the pairs that encoder 1 (index 0) and encoder 2 (index 1) read of the data bits d
unfoldable pub input_of : ℕ → (ℕ → ℕ) → ℕ → ℕ → ℕ
input_of kind d zero t = pair_at d t
input_of kind d (suc e) t = interleaved kind (pair_at d) t

-- kept parity bit i: for the kept times t rising, p(t) of encoder 1, then q(t) of encoder 2
unfoldable pub kept_bit : ℕ → ℕ → ℕ → (ℕ → ℕ) → ℕ → ℕ
kept_bit kind rate taps d i = parity_at kind taps (input_of kind d (i % 2)) (kept_time kind rate (i / 2))
