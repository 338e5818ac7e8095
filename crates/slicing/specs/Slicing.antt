-- Received carriers to items: 0, 1, or 2 where lost. Assumes nothing.
use Rattle.std.specs.Prelude.{ℕ, false, cond, List, [], ◌∷◌, ltb, pos, negsuc, Float, get_or, replicate, Result, Ok, Err}
use Rattle.std.specs.Float.{nan, inf, fin, binary64}
use Rattle.std.specs.Float.Ieee.{le, lt, add, sub, mul}
use Rattle.refusal.specs.declared.Refusal.{Refusal}
use Rattle.refusal.specs.declared.Refusal.TheVariants.{Mode}
use Rattle.refusal.specs.Report.{Report, done, refusal}
use Rattle.refusal.specs.Outcome.{row, reported}
use Rattle.card.specs.Modes.{carrier_bits}
use Rattle.constellation.specs.declared.Pair.{Pair}
use Rattle.constellation.specs.Factors.{by_modulation, factor_of}
use Rattle.constellation.specs.Mapping.{pair, labels}
use Rattle.slicing.specs.declared.Received.{Received}
use Rattle.slicing.specs.declared.Received.TheVariants.{Heard, Lost}
use Rattle.slicing.specs.declared.Sliced.{Sliced}
use Rattle.slicing.specs.declared.Sliced.TheVariants.{One, Two, Four}

-- what is read on an axis: the index of a level, from the lowest, or nothing
pub data Reading : Type 0 where
  level : ℕ → Reading
  lost : Reading

-- the erasure width is this part of a modulation's f, an eighth (D14): sizes up to it are lost, and for 16QAM those about 2f, from `lower`
-- to `upper`. `negsuc 2` is -3.
abbrev pub erasure_fraction : Float
erasure_fraction = fin false 1 (negsuc 2)

abbrev pub erasure_width : ℕ → Float
erasure_width modulation = mul binary64 (factor_of modulation) erasure_fraction

-- the threshold 2f of 16QAM, and the ends of what is lost about it, each rounded once
abbrev pub threshold : Float
threshold = mul binary64 (fin false 1 (pos 1)) (factor_of 2)

abbrev pub lower : Float
lower = sub binary64 threshold (erasure_width 2)

abbrev pub upper : Float
upper = add binary64 threshold (erasure_width 2)

-- an axis of two levels goes by the sign, where the size is above the width
abbrev pub read2 : Float → Float → Reading
read2 width nan = lost
read2 width (inf s) = lost
read2 width (fin s n e) = cond (le (fin false n e) width) lost (cond s (level 0) (level 1))

-- an axis of four goes by the sign and the size: an inner level below `low`, an outer one above `high`
abbrev pub read4 : Float → Float → Float → Float → Reading
read4 width low high nan = lost
read4 width low high (inf s) = lost
read4 width low high (fin s n e) =
    cond (le (fin false n e) width) lost
    (cond (lt (fin false n e) low) (cond s (level 1) (level 2))
    (cond (le (fin false n e) high) lost (cond s (level 0) (level 3))))

-- what is read of a coordinate of BPSK or QPSK, and of 16QAM
abbrev pub reading2 : ℕ → Float → Reading
reading2 modulation x = read2 (erasure_width modulation) x

abbrev pub reading4 : Float → Reading
reading4 x = read4 (erasure_width 2) lower upper x

-- the items of a reading: both of a lost 16QAM axis are 2
abbrev pub item2 : Reading → ℕ
item2 (level k) = k
item2 lost = 2

abbrev pub pair4 : Reading → Pair
pair4 (level k) = get_or labels k (pair 2 2)
pair4 lost = pair 2 2

-- the items of a coordinate
unfoldable pub axis2_of : ℕ → Float → ℕ
axis2_of modulation x = item2 (reading2 modulation x)

unfoldable pub axis4_of : Float → Pair
axis4_of x = pair4 (reading4 x)

-- the four items of two axes
abbrev pub four_items : Pair → Pair → List ℕ
four_items x y = x.first ∷ x.second ∷ y.first ∷ y.second ∷ []

-- the items of a received carrier; BPSK looks at I alone
abbrev pub items_of : ℕ → Received → List ℕ
items_of modulation Lost = replicate (carrier_bits modulation) 2
items_of modulation (Heard i q) =
    by_modulation modulation (axis2_of modulation i ∷ []) (axis2_of modulation i ∷ axis2_of modulation q ∷ []) (four_items (axis4_of i) (axis4_of q))

-- the items in each case of `Sliced`
abbrev pub items_in : Sliced → List ℕ
items_in (One a) = a ∷ []
items_in (Two a b) = a ∷ b ∷ []
items_in (Four a b c d) = a ∷ b ∷ c ∷ d ∷ []

-- the report of each case of an answer, with the items as a list
abbrev pub sliced : Result Sliced Refusal → Report (List ℕ)
sliced (Ok s) = done (items_in s)
sliced (Err r) = refusal r

-- what slicing reports, by its rows
abbrev pub slicing : ℕ → Received → Report (List ℕ)
slicing modulation received = reported (row (ltb 2 modulation) Mode ∷ []) (items_of modulation received)
