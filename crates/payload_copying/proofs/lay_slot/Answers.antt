-- `payload_copying::lay_slot` meets its contract: what its group sends, and 0. Assumes nothing.
use mathlib.Core.Path.{sym, ◌∙◌}
use Prim.Native.Nat.{ℕ, ◌+◌, ◌-◌, ◌≤◌}
use native.Mathlib.Omega.{arith}
use lib.ListN.{get_or}
use Rattle.bits.proofs.ListLaws.{written-part, written-ext, written_all}
use Rattle.payload_layout.specs.Layouts.{group_bits}
use Rattle.payload_layout.specs.Items.{sent_on}
use Rattle.payload_copying.proofs.SymbolLaws.{slot-sent, slot-clear}
use Rattle.payload_copying.proofs.lay_slot.Goals as goal

pub returns : goal.returns
returns c =
    let L = c.args.slots.now.layout in
    let slot = c.args.slot in
    let d : ℕ → ℕ = λ b. get_or c.args.coded.now b 0 in
    let sent : ℕ → ℕ = λ i. sent_on L d (slot.start + i) in
    let used = c.group_bits-used.result in
    let size = c.group_bits-used.ensures in
    let room : used ≤ slot.end - slot.start = omega (arith, size, c.requires.0.room) in
    let first = written_all _ _ _ _ _ (c.lay_group.ensures ∙ written-ext (group_bits L) _ sent c.args.out.now (slot-sent L slot c.requires.0 d)) (sym size) in
    let rest : ℕ = slot.end - slot.start - used in
    written_all _ _ _ _ _
    (written-part used rest sent (λ _. 0) _ _ _ first (λ i h. slot-clear L slot c.requires.0 d (slot.start + (used + i)) (omega (arith, size)) (omega arith)) c.fill.ensures)
    (omega (arith, room))
