-- Bits to points. The first bit of a carrier is d 0. Assumes nothing.
use Rattle.std.specs.Prelude.{ℕ, suc, ◌*◌, ◌&&◌, cond, List, [], ◌∷◌, eqb, ltb, ℤ, pos, Float, length, get_or, take}
use Rattle.std.specs.Float.{binary64}
use Rattle.std.specs.Float.Ieee.{minus, mul, of_int}
use Rattle.bits.specs.Lists.{first_above}
use Rattle.refusal.specs.declared.Refusal.TheVariants.{Mode, Item}
use Rattle.refusal.specs.Report.{Report}
use Rattle.refusal.specs.Outcome.{Row, row, reported}
use Rattle.card.specs.Modes.{carrier_bits}
use Rattle.constellation.specs.declared.Point.{Point}
use Rattle.constellation.specs.declared.Pair.{Pair}
use Rattle.constellation.specs.Factors.{by_modulation, factor_of}

abbrev pub pair : ℕ → ℕ → Pair
pair first second = record { first = first; second = second }

-- the labels of 16QAM: the first and the second bit of the levels -3, -1, 1, 3 (000, Table 15)
abbrev pub labels : List Pair
labels = pair 1 0 ∷ pair 0 0 ∷ pair 0 1 ∷ pair 1 1 ∷ []

-- the index of a label in a table, or the table's length
abbrev pub index_of : List Pair → ℕ → ℕ → ℕ
index_of [] first second = 0
index_of (p ∷ ps) first second = cond (eqb first p.first && eqb second p.second) 0 (suc (index_of ps first second))

-- the level of one bit: -1 or 1; of two: -3, -1, 1 or 3
abbrev pub level2_of : ℕ → ℤ
level2_of bit = minus (2 * bit) 1

abbrev pub level4_of : ℕ → ℕ → ℤ
level4_of first second = minus (2 * index_of labels first second) 3

-- the levels of I and of Q (000, Table 16)
abbrev pub level_i : ℕ → (ℕ → ℕ) → ℤ
level_i modulation d = by_modulation modulation (level2_of (d 0)) (level2_of (d 0)) (level4_of (d 0) (d 1))

abbrev pub level_q : ℕ → (ℕ → ℕ) → ℤ
level_q modulation d = by_modulation modulation (pos 0) (level2_of (d 1)) (level4_of (d 2) (d 3))

-- a coordinate: its level times the factor, one product rounded once
abbrev pub coordinate : ℕ → ℤ → Float
coordinate modulation level = mul binary64 (of_int binary64 level) (factor_of modulation)

-- the point of the bits d 0, d 1, ..
unfoldable pub point_of : ℕ → (ℕ → ℕ) → Point
point_of modulation d = record { i = coordinate modulation (level_i modulation d); q = coordinate modulation (level_q modulation d) }

-- the cause "an item is not legal": some bit is neither 0 nor 1
abbrev pub illegal_bit : List ℕ → Row
illegal_bit bits = row (ltb (first_above 1 bits) (length bits)) (Item (first_above 1 bits))

-- what mapping reports of a carrier's bits, by its rows
abbrev pub mapping_of : ℕ → List ℕ → Report Point
mapping_of modulation bits = reported (row (ltb 2 modulation) Mode ∷ illegal_bit bits ∷ []) (point_of modulation (λ k. get_or bits k 0))

-- of the bits given, those that the modulation uses
abbrev pub mapping : ℕ → List ℕ → Report Point
mapping modulation bits = mapping_of modulation (take (carrier_bits modulation) bits)
