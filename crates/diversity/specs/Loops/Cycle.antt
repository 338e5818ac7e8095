-- The cycle: the 512 lanes of 256 places under offset 0, I then Q, after which the bits repeat. Assumes nothing.
use Rattle.std.specs.Prelude.{◌≡◌, ℕ, ◌+◌, ◌*◌, ◌/◌, ◌%◌, ◌<◌, ◌≤◌, List, slice_index}
use Rattle.diversity.specs.Lanes.{item_count}

-- the bit on lane q of the cycle
unfoldable pub cycle_bit : ℕ → ℕ
cycle_bit q = (q / 2 + 128 * (q % 2)) % 256

-- the lane of the cycle that carries the bit of item n
unfoldable pub cycle_lane : ℕ → List ℕ → ℕ → ℕ
cycle_lane carriers offsets n = (2 * (n / 2 % carriers + slice_index offsets (n / 2 / carriers)) + n % 2) % 512

-- a run: from item n on, m items of one symbol carry the bits of lanes in a row, from lane q on
pub record IsRun (carriers : ℕ) (offsets : List ℕ) (n q m : ℕ) : Type 0 where
  pub some : 0 < m
  pub within : n + m ≤ item_count carriers offsets
  pub one_symbol : n % (2 * carriers) + m ≤ 2 * carriers
  pub on_cycle : q + m ≤ 512
  pub in_row : (j : ℕ) → j < m → cycle_lane carriers offsets (n + j) ≡ q + j
