-- `constellation::map_into` meets its contract: each return is a row of the outcome, or none applies. Assumes nothing.
use mathlib.Core.Path.{◌≡◌, sym, ◌∙◌}
use Prim.Native.Nat.{◌≤◌}
use native.Mathlib.Omega.{arith}
use lib.ListN.{length, get_or}
use Rattle.card.specs.Modes.{carrier_bits}
use Rattle.bits.proofs.ListLaws.{none_above}
use Rattle.constellation.proofs.EntryLaws.{both, map-mode, map-length, map-room, map-item, map-done}
use Rattle.constellation.proofs.map_into.Goals as goal
use Rattle.constellation.proofs.map_into.Goals.{Else-bits-n}

-- past the second branch the bits are as many as the modulation has
exact : (c : Else-bits-n) → length c.args.bits.now ≡ carrier_bits c.args.modulation
exact c = c.if-bits-n.false ∙ c.carrier_bits-n.ensures

pub returns-then-modulation-gt2 : goal.returns-then-modulation-gt2
returns-then-modulation-gt2 c =
    let both = both (map-mode _ _ _ c.if-modulation-gt2.true) in record { answer = both.0; point = both.1 }

pub returns-then-bits-n : goal.returns-then-bits-n
returns-then-bits-n c =
    let both = both (map-length _ _ _ c.if-modulation-gt2.false (λ e. c.if-bits-n.true (e ∙ sym c.carrier_bits-n.ensures))) in record { answer = both.0; point = both.1 }

pub returns-then-point-lt2 : goal.returns-then-point-lt2
returns-then-point-lt2 c =
    let both = both (map-room _ _ _ c.if-modulation-gt2.false (exact (goal.at.returns-then-point-lt2 c).Else-bits-n) c.if-point-lt2.true) in record { answer = both.0; point = both.1 }

pub returns-in-Some : goal.returns-in-Some
returns-in-Some c =
    let both = both (map-item _ _ _ c.if-modulation-gt2.false (exact (goal.at.returns-in-Some c).Else-bits-n) c.if-point-lt2.false c.in-Some.ensures.0 c.in-Some.ensures.1) in record { answer = both.0; point = both.1 }

pub point_of-p-requires : goal.point_of-p-requires
point_of-p-requires c =
    let bits = c.args.bits.now in
    (omega arith, exact (goal.at.point_of-p-requires c).Else-bits-n, λ k h. let b : get_or bits k 0 ≤ 1 = none_above 1 bits c.in_default.ensures k h in omega arith)

pub returns : goal.returns
returns c =
    let both = both (map-done _ _ _ c.if-modulation-gt2.false (exact (goal.at.returns c).Else-bits-n) c.if-point-lt2.false c.in_default.ensures c.point_of-p.ensures) in record { answer = both.0; point = both.1 }
