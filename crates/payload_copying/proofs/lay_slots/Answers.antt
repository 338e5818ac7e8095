-- `payload_copying::lay_slots` meets its contract. Assumes nothing.
use mathlib.Core.Path.{refl, sym, ap, ◌∙◌}
use Prim.Native.Nat.{ℕ, ◌-◌}
use native.Mathlib.Omega.{arith}
use lib.ListN.{get_or}
use Rattle.bits.proofs.ListLaws.{written_none, written-part, written_all}
use Rattle.payload_layout.specs.Items.{sent_on}
use Rattle.payload_copying.specs.declared.Walk.{Walk}
use Rattle.payload_copying.proofs.lay_slots.Goals as goal

pub loop-slot-init : goal.loop-slot-init
loop-slot-init c =
    let same = c.into_iter-slot-iterator.ensures.into_iter_gives in (
      ap (λ (w : Walk). w.slots.now.layout) same ∙ c.walk-slot-items.ensures.0,
      written_all _ _ _ _ _ (written_none _ _) (sym (ap (λ (w : Walk). w.start) same ∙ c.walk-slot-items.ensures.1)),
    )

pub loop-slot-preserved : goal.loop-slot-preserved
loop-slot-preserved c =
    let sent : ℕ → ℕ = sent_on c.args.slots.now.layout (λ b. get_or c.args.coded.now b 0) in
    let slot = c.in-Some.slot in
    let gives = c.in-Some.ensures.steps in (
      gives.0 ∙ c.loop-slot.invariant.0,
      written_all _ _ _ _ _
          (written-part slot.start (slot.end - slot.start) sent _ _ _ _ (written_all _ _ _ _ _ c.loop-slot.invariant.1 (sym gives.1.1)) (λ j h. refl) c.lay_slot.ensures)
          (omega (arith, gives.1.0.room, gives.1.2)),
    )
