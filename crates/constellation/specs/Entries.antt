-- Mapping over lent memory: what is reported, and what the memory then holds. Assumes nothing.
use Rattle.std.specs.Prelude.{ℕ, not, List, [], ◌∷◌, eqb, ltb, Float, length, get_or, drop}
use Rattle.refusal.specs.declared.Refusal.TheVariants.{Mode, Length, Room}
use Rattle.refusal.specs.Outcome.{Row, row, Outcome, outcome}
use Rattle.card.specs.Modes.{carrier_bits}
use Rattle.constellation.specs.declared.Point.{Point}
use Rattle.constellation.specs.Mapping.{point_of, illegal_bit}

-- the two coordinates at the start of the memory, and the rest kept
abbrev pub with_point : Point → List Float → List Float
with_point p out = p.i ∷ p.q ∷ drop 2 out

-- mapping the bits of a carrier
abbrev pub map_rows : ℕ → List ℕ → List Float → List Row
map_rows modulation bits out =
    row (ltb 2 modulation) Mode
    ∷ row (not (eqb (length bits) (carrier_bits modulation))) (Length (length bits))
    ∷ row (ltb (length out) 2) (Room 2)
    ∷ illegal_bit bits
    ∷ []

unfoldable pub map_outcome : ℕ → List ℕ → List Float → Outcome ℕ (List Float)
map_outcome modulation bits out = outcome (map_rows modulation bits out) out 2 (with_point (point_of modulation (λ k. get_or bits k 0)) out)
