-- The two passes of two encoders, each over a block's bytes. Assumes nothing.
use Rattle.std.specs.Prelude.{◌≡◌, cond, List, ℕ, ◌+◌, ◌*◌, ◌/◌, ◌%◌, ◌≤◌, ◌<◌, eqb, length}
use Rattle.bits.specs.Bits.{bit_of}
use Rattle.card.specs.Modes.{block_bytes}
use Rattle.constituent.specs.declared.States.{States}
use Rattle.constituent.specs.Pairs.{pair_at}
use Rattle.constituent.specs.Encoder.{state_at, ring_start, parity_at}

-- the parity bits of two encoders, multiplexed: for each time that of the pairs p, and then that of the pairs q
unfoldable pub multiplexed : ℕ → ℕ → (ℕ → ℕ) → (ℕ → ℕ) → ℕ → ℕ
multiplexed kind taps p q i = parity_at kind taps (cond (eqb (i % 2) 0) p q) (i / 2)

-- what both encoders go over: a block's bytes each
pub record Blocks (kind : ℕ) (bytes second : List ℕ) : Type 0 where
  pub defined : kind < 5
  pub whole : length bytes ≡ block_bytes kind
  pub room : block_bytes kind ≤ length second

-- the state before pair t of some bytes, from a state
abbrev pub state_by : ℕ → List ℕ → ℕ → ℕ → ℕ
state_by taps bytes from t = state_at taps (pair_at (bit_of bytes)) from t

-- the states in which pass one over n bytes ends
pub record Ended (taps : ℕ) (bytes second : List ℕ) (n : ℕ) (s : States) : Type 0 where
  pub one : s.first ≡ state_by taps bytes 0 (4 * n)
  pub two : s.second ≡ state_by taps second 0 (4 * n)

-- the states in which pass two starts
pub record Started (kind taps : ℕ) (bytes second : List ℕ) (s : States) : Type 0 where
  pub one : s.first ≡ ring_start kind taps (pair_at (bit_of bytes))
  pub two : s.second ≡ ring_start kind taps (pair_at (bit_of second))

-- pass one ends as well after a shorter list: 56 sums of bytes, and as many zeros as the bytes are past a multiple of seven
pub record SameEnd (bytes sums : List ℕ) : Type 0 where
  pub long : length sums ≡ 63
  pub same : (taps : ℕ) → state_by taps sums 0 (4 * (56 + length bytes % 7)) ≡ state_by taps bytes 0 (4 * length bytes)
