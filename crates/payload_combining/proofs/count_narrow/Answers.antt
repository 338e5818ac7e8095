-- `payload_combining::count_narrow` meets its contract. Assumes nothing.
use mathlib.Core.Path.{◌≡◌, ap, ◌∙◌}
use lib.ListN.{length, get_or}
use borrow.Author.Rules.{rules}
use Rattle.std.proofs.lemmas.Slice.Zip.{zip_turn}
use Rattle.std.proofs.lemmas.List.{length_push}
use Prim.Native.Nat.{ℕ, ◌+◌, ◌*◌, ◌<◌}
use native.Mathlib.Omega.{arith}
use Rattle.votes.proofs.CounterLaws.{counted_none}
use Rattle.payload_layout.specs.Layouts.{group_carriers}
use Rattle.payload_layout.specs.Items.{group_order, padded}
use Rattle.payload_combining.proofs.NarrowLaws.{bit_in, narrow_next}
use Rattle.payload_combining.proofs.count_narrow.Goals as goal
use Rattle.payload_combining.proofs.count_narrow.Goals.{After-from}

-- the carrier is one of the group, its address the carrier's, and its item too
turn : (c : After-from) → let p = length c.loop-address.yielded in
    (p < group_carriers c.args.slots.now.layout) × (c.from.result ≡ group_order c.args.slots.now.layout c.args.slot.copy p)
    × (c.in-Some.field-0-1.now ≡ get_or c.args.items.now p 0)
turn c =
    let l = c.loop-address in
    let (within, _, x, y) = zip_turn c.order.result.now c.args.items.now l.yielded _ l.address-iterator c.next.new.self c.next.result (search rules) (search rules) l.yielded_by
    (c.in-Some.field-0-0, c.in-Some.field-0-1) c.in-Some.is c.next.ensures.steps in
    let below : length l.yielded < group_carriers c.args.slots.now.layout = omega (arith, within, c.order.ensures.long) in
    (below, c.from.ensures ∙ x 0 ∙ c.order.ensures.at (length l.yielded) below, y 0)

pub overflow_add-from : goal.overflow_add-from
overflow_add-from c =
    let s = c.args.slots.now in
    let laid = s.slotted.laid in
    let slot = c.requires.carries.0 in
    let from = ap (λ (n : ℕ). c.args.slot.group * n) c.group_carriers.ensures in
    omega (arith, from, laid.small.coded_in, laid.sound.pad-in, laid.small.group-in s.slotted.more, bit_in s.layout s.slotted c.requires.carries.1 c.args.slot.copy c.args.slot.group (length c.loop-address.yielded) _ slot.group-in (turn c).0 (turn c).1)

pub loop-address-init : goal.loop-address-init
loop-address-init c = counted_none _ _ _ _ c.requires.len.1 (λ q l. omega (arith, c.type_inv.counters q))

pub padded_bit-at-requires : goal.padded_bit-at-requires
padded_bit-at-requires c =
    let s = c.args.slots.now in
    let slot = c.requires.carries.0 in
    let from = ap (λ (n : ℕ). c.args.slot.group * n) c.group_carriers.ensures in (
      slot.copy_in,
      omega (arith, from, bit_in s.layout s.slotted c.requires.carries.1 c.args.slot.copy c.args.slot.group (length c.loop-address.yielded) _ slot.group-in (turn c).0 (turn c).1),
    )

pub loop-address-preserved : goal.loop-address-preserved
loop-address-preserved c =
    let s = c.args.slots.now in
    let k = c.args.slot.copy in
    let from = (goal.at.loop-address-preserved c).After-from in
    rw length_push (narrow_next s.layout s.slotted c.requires.carries.1 k c.args.slot.group (length c.loop-address.yielded) _ c.requires.carries.0.group-in (turn from).0 (turn from).1
    _ _ c.args.items.now c.args.counters.now c.loop-address.counters
    (c.padded_bit-at.ensures.value ∙ ap (λ (n : ℕ). padded s.layout k (c.args.slot.group * n + c.from.result)) c.group_carriers.ensures)
    (rw (turn from).2 at c.voted.ensures) c.loop-address.invariant)
