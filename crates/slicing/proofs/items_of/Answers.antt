-- `slicing::items_of` meets its contract: each return is the case of `items_of` that its tests and the carrier's own case lead to. Assumes nothing.
use borrow.Author.Tests.{eq-eqb, ne_eqb}
use mathlib.Core.Path.{◌≡◌, sym, ap}
use Prim.Native.Nat.{ℕ}
use native.Mathlib.Omega.{arith}
use lib.ListN.{replicate}
use Rattle.card.specs.Modes.{carrier_bits}
use Rattle.slicing.proofs.items_of.Goals as goal

-- the items of a lost carrier, where the modulation is known
lost : {m k : ℕ} → m ≡ k → replicate {A = ℕ} (carrier_bits k) 2 ≡ replicate (carrier_bits m) 2
lost e = ap (λ (n : ℕ). replicate (carrier_bits n) 2) (sym e)

pub returns-in-0 : goal.returns-in-0
returns-in-0 c = simp (c.in-Lost.is) (lost c.in-0.is)

pub returns-in-1 : goal.returns-in-1
returns-in-1 c = simp (c.in-Lost.is) (lost c.in-1.is)

pub returns-in_default : goal.returns-in_default
returns-in_default c =
    let two : c.args.modulation ≡ 2 = omega arith in
    simp (c.in-Lost.is) (lost two)

pub returns-in-0-modulation : goal.returns-in-0-modulation
returns-in-0-modulation c = simp (c.in-Heard.is, eq-eqb _ _ c.in-0-modulation.is, c.axis2.ensures)

pub returns-in-1-modulation : goal.returns-in-1-modulation
returns-in-1-modulation c =
    simp (c.in-Heard.is, ne_eqb c.args.modulation 0 (λ e. omega arith), eq-eqb _ _ c.in-1-modulation.is, c.axis2-in-1-modulation.ensures, c.axis2-in-1-modulation-2.ensures)

pub returns-in_default-modulation : goal.returns-in_default-modulation
returns-in_default-modulation c =
    simp (
      c.in-Heard.is,
      ne_eqb c.args.modulation 0 (λ e. omega arith),
      ne_eqb c.args.modulation 1 (λ e. omega arith),
      c.axis4-a.ensures,
      c.axis4-b.ensures,
    )
