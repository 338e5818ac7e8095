-- Slicing over lent memory: what is reported, and what the memory then holds. Assumes nothing.
use Rattle.std.specs.Prelude.{ℕ, cond, List, [], ◌∷◌, ◌++◌, eqb, ltb, Float, length, drop}
use Rattle.refusal.specs.declared.Refusal.TheVariants.{Mode, Room}
use Rattle.refusal.specs.Outcome.{Row, row, Outcome, outcome}
use Rattle.card.specs.Modes.{carrier_bits}
use Rattle.slicing.specs.declared.Received.{Received}
use Rattle.slicing.specs.declared.Received.TheVariants.{Heard, Lost}
use Rattle.slicing.specs.Slicing.{items_of}

-- a carrier by a number that is 0 where it is lost
abbrev pub received_of : ℕ → Float → Float → Received
received_of heard i q = cond (eqb heard 0) Lost (Heard i q)

-- slicing a received carrier
abbrev pub slice_rows : ℕ → List ℕ → List Row
slice_rows modulation out = row (ltb 2 modulation) Mode ∷ row (ltb (length out) (carrier_bits modulation)) (Room (carrier_bits modulation)) ∷ []

unfoldable pub slice_outcome : ℕ → Received → List ℕ → Outcome ℕ (List ℕ)
slice_outcome modulation received out =
    outcome (slice_rows modulation out) out (carrier_bits modulation) (items_of modulation received ++ drop (carrier_bits modulation) out)
