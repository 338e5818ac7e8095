-- Copies of a coded bit among the first N items, their votes, and the strict majority. `on n b` says that item n carries bit b; an
-- item may carry none. A received item is 0, 1 or 2, where 2 means lost. Assumes nothing.
use Rattle.std.specs.Prelude.{ℕ, Bool, cond, not, ◌&&◌, List, ◌==◌, nat_lt, slice_index}
use Rattle.bits.specs.Sums.{count}

-- an item, sent as s and received as r, holds a wrong bit; an item is lost
abbrev pub wrong_item : ℕ → ℕ → Bool
wrong_item s r = nat_lt r 2 && not (r == s)

abbrev pub lost_item : ℕ → Bool
lost_item r = r == 2

-- item n carries bit b, where `lane` gives the bit that each item carries
unfoldable pub carries : (ℕ → ℕ) → ℕ → ℕ → Bool
carries lane n b = lane n == b

-- the copies of bit b
unfoldable pub copies : ℕ → (ℕ → ℕ → Bool) → ℕ → ℕ
copies N on b = count N (λ n. on n b)

-- the copies of bit b that hold v
unfoldable pub votes : ℕ → (ℕ → ℕ → Bool) → List ℕ → ℕ → ℕ → ℕ
votes N on items b v = count N (λ n. on n b && slice_index items n == v)

-- the copies of bit b that hold a wrong bit, and those that are lost
unfoldable pub wrong_copies : ℕ → (ℕ → ℕ → Bool) → List ℕ → List ℕ → ℕ → ℕ
wrong_copies N on sent items b = count N (λ n. on n b && wrong_item (slice_index sent n) (slice_index items n))

unfoldable pub lost_copies : ℕ → (ℕ → ℕ → Bool) → List ℕ → ℕ → ℕ
lost_copies N on items b = count N (λ n. on n b && lost_item (slice_index items n))

-- the strict majority: 0, 1, or 2 where there is none
unfoldable pub majority : ℕ → ℕ → ℕ
majority zeros ones = cond (nat_lt ones zeros) 0 (cond (nat_lt zeros ones) 1 2)

-- bit b by strict majority of its copies that are not lost
unfoldable pub decided : ℕ → (ℕ → ℕ → Bool) → List ℕ → ℕ → ℕ
decided N on items b = majority (votes N on items b 0) (votes N on items b 1)
