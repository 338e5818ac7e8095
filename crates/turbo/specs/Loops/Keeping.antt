-- The kept parity bits from the bytes of all of them. Assumes nothing.
use Rattle.std.specs.Prelude.{◌≡◌, List, ℕ, ◌+◌, ◌-◌, ◌*◌, ◌/◌, ◌%◌, ◌≤◌, ◌<◌, length}
use Rattle.bits.specs.Bits.{bit_of}
use Rattle.bits.specs.Lists.{lowest}
use Rattle.card.specs.Modes.{block_bytes}
use Rattle.constituent.specs.Pairs.{pair_count, pair_at}
use Rattle.pair_interleaver.specs.Interleave.{interleaved}
use Rattle.turbo.specs.Puncture.{kept, kept_time, kept_count}

-- the first place of the pattern that is kept, from a place on, or 16
unfoldable pub kept_from : ℕ → ℕ → ℕ
kept_from rate from = from + lowest (16 - from) (λ k. kept rate (from + k))

-- the pairs p at places a and b of two rows of sixteen from t on, in a byte
abbrev pub two_rows : (ℕ → ℕ) → ℕ → ℕ → ℕ → ℕ
two_rows p t a b = p (t + a) * 64 + p (t + b) * 16 + p (t + 16 + a) * 4 + p (t + 16 + b)

-- the kept ones of the parity bits b of both encoders, multiplexed
unfoldable pub punctured : ℕ → ℕ → (ℕ → ℕ) → ℕ → ℕ
punctured kind rate b i = b (2 * kept_time kind rate (i / 2) + i % 2)

-- what the encoders read: a block's bytes, and bytes of the pairs that encoder 2 reads of them
pub record Inputs (kind : ℕ) (bytes second : List ℕ) : Type 0 where
  pub defined : kind < 5
  pub whole : length bytes ≡ block_bytes kind
  pub room : block_bytes kind ≤ length second
  pub held : (t : ℕ) → t < pair_count kind → pair_at (bit_of second) t ≡ interleaved kind (pair_at (bit_of bytes)) t

-- what keeping two times of every sixteen asks: all parity bits of a block, and room for the kept
pub record Puncturing (kind rate : ℕ) (packed out : List ℕ) : Type 0 where
  pub rate-is : rate ≡ 1
  pub whole : block_bytes kind ≤ length packed
  pub short : length packed < 65536
  pub room : kept_count kind rate / 8 ≤ length out
