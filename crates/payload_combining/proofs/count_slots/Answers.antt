-- `payload_combining::count_slots` meets its contract. Assumes nothing.
use mathlib.Core.Path.{sym, ap, ◌∙◌}
use Prim.Native.Nat.{ℕ, ◌+◌}
use Rattle.votes.specs.Loops.Counters.{counted}
use Rattle.payload_layout.specs.Items.{carries}
use Rattle.payload_copying.specs.declared.Walk.{Walk}
use Rattle.payload_combining.specs.Loops.Groups.{middles}
use Rattle.payload_combining.proofs.VoteLaws.{none-counted, slot-more}
use Rattle.payload_combining.proofs.count_slots.Goals as goal

pub loop-slot-init : goal.loop-slot-init
loop-slot-init c =
    let s = c.args.slots.now in
    let same = c.into_iter-slot-iterator.ensures.into_iter_gives in (
      ap (λ (w : Walk). w.slots.now.layout) same ∙ c.walk-slot-items.ensures.0,
      none-counted s.layout s.slotted c.args.items.now _ c.requires.1
          ∙ ap (λ (n : ℕ). counted s.layout.coded n (carries s.layout) c.args.items.now (middles s.layout))
          (sym (ap (λ (w : Walk). w.start) same ∙ c.walk-slot-items.ensures.1)),
    )

pub loop-slot-preserved : goal.loop-slot-preserved
loop-slot-preserved c =
    let s = c.args.slots.now in
    let gives = c.in-Some.ensures.steps in (
      gives.0 ∙ c.loop-slot.invariant.0,
      slot-more s.layout s.slotted c.args.items.now _ c.loop-slot.counters c.loop-slot.invariant.1 c.in-Some.slot (rw c.loop-slot.invariant.0 at gives.1.0) gives.1.1
          _ (ap (λ (n : ℕ). c.in-Some.slot.start + n) c.group_bits-group_bits.ensures) _ c.count_slot.ensures
          ∙ ap (λ (n : ℕ). counted s.layout.coded n (carries s.layout) c.args.items.now (middles s.layout)) gives.1.2,
    )
