-- What a damage does to carriers. Carrier, altered, lost and damage are paper 01's terms: a carrier is one place in one symbol, and
-- carrier k over all symbols holds the items 2 * k and 2 * k + 1. Assumes nothing.
use Rattle.std.specs.Prelude.{◌≡◌, ℕ, ◌+◌, ◌*◌, ◌<◌, Bool, not, ◌&&◌, ◌||◌, List, length, slice_index}
use Rattle.bits.specs.Sums.{count}
use Rattle.votes.specs.Votes.{wrong_item, lost_item}

-- a damage: a list of N items, each 0, 1 or 2
pub record Damage (N : ℕ) (items : List ℕ) : Type 0 where
  pub long : length items ≡ N
  pub legal : (n : ℕ) → n < N → slice_index items n < 3

-- carrier k is altered: one of its items holds the wrong bit
unfoldable pub altered_carrier : List ℕ → List ℕ → ℕ → Bool
altered_carrier sent items k =
    wrong_item (slice_index sent (2 * k)) (slice_index items (2 * k)) || wrong_item (slice_index sent (2 * k + 1)) (slice_index items (2 * k + 1))

-- carrier k is lost: its only change is items marked 2
unfoldable pub lost_carrier : List ℕ → List ℕ → ℕ → Bool
lost_carrier sent items k =
    not (altered_carrier sent items k) && (lost_item (slice_index items (2 * k)) || lost_item (slice_index items (2 * k + 1)))

-- how many of K carriers are altered, and how many are lost
unfoldable pub altered : ℕ → List ℕ → List ℕ → ℕ
altered K sent items = count K (altered_carrier sent items)

unfoldable pub lost : ℕ → List ℕ → List ℕ → ℕ
lost K sent items = count K (lost_carrier sent items)
