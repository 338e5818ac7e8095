-- How many lanes carry a coded bit, by the carriers of a symbol and the offsets, and for each band. Assumes nothing.
use Rattle.std.specs.Prelude.{ℕ, zero, suc, Bool, cond, List, [], ◌∷◌, nat_lt, slice_index}
use Rattle.votes.specs.Votes.{carries, copies}
use Rattle.bands.specs.Bands.{carriers as carriers_of, offsets as offsets_of}
use Rattle.diversity.specs.Lanes.{lane_bit, item_count}

-- the lanes that carry bit b
unfoldable pub copies_of : ℕ → List ℕ → ℕ → ℕ
copies_of carriers offsets b = copies (item_count carriers offsets) (carries (lane_bit carriers offsets)) b

-- the lesser of two numbers and the least of f 0 to f n in an order, where `before b a` says that b goes before a
abbrev pub lesser : (ℕ → ℕ → Bool) → ℕ → ℕ → ℕ
lesser before a b = cond (before b a) b a

unfoldable pub least_by : (ℕ → ℕ → Bool) → ℕ → (ℕ → ℕ) → ℕ
least_by before zero f = f 0
least_by before (suc n) f = lesser before (least_by before n f) (f (suc n))

-- the least and the greatest of the 256 copy counts: the greatest is the least the other way round
unfoldable pub fewest_copies : ℕ → List ℕ → ℕ
fewest_copies carriers offsets = least_by nat_lt 255 (copies_of carriers offsets)

unfoldable pub most_copies : ℕ → List ℕ → ℕ
most_copies carriers offsets = least_by (λ a b. nat_lt b a) 255 (copies_of carriers offsets)

-- the copies of bit b on a band, and their fewest and most
abbrev pub copies_on : ℕ → ℕ → ℕ
copies_on band b = copies_of (carriers_of band) (offsets_of band) b

abbrev pub band_fewest : ℕ → ℕ
band_fewest band = slice_index (12 ∷ 12 ∷ 7 ∷ 3 ∷ []) band

abbrev pub band_most : ℕ → ℕ
band_most band = slice_index (13 ∷ 13 ∷ 10 ∷ 7 ∷ []) band
