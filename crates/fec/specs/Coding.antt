-- From a block's data bits to its coded bits: the data bits and then the kept parity bits, in the channel interleaver's order. Bits are a
-- function of their number; `taps` are those of the constituent encoders. Assumes nothing.
use Rattle.std.specs.Prelude.{cond, ℕ, ◌-◌, ◌*◌, ltb}
use Rattle.card.specs.Modes.{block_bytes}
use Rattle.turbo.specs.Parity.{kept_bit}
use Rattle.interleaver.specs.Source.{source}

-- the number of a block's data bits: eight to a byte
abbrev pub data_bits : ℕ → ℕ
data_bits kind = 8 * block_bytes kind

-- source bit s of the data bits d: the data bits come first, and the kept parity bits after them
unfoldable pub source_bit : ℕ → ℕ → ℕ → (ℕ → ℕ) → ℕ → ℕ
source_bit kind rate taps d s = cond (ltb s (data_bits kind)) (d s) (kept_bit kind rate taps d (s - data_bits kind))

-- coded bit i of the data bits d
unfoldable pub coded_bit : ℕ → ℕ → ℕ → (ℕ → ℕ) → ℕ → ℕ
coded_bit kind rate taps d i = source_bit kind rate taps d (source kind rate i)
