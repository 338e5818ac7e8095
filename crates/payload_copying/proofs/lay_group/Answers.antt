-- `payload_copying::lay_group` meets its contract. Assumes nothing.
use mathlib.Core.Path.{refl, ap}
use Prim.Native.Nat.{ℕ, ◌*◌, ◌≤◌}
use native.Mathlib.Omega.{arith}
use lib.ListN.{length-take, length-drop}
use Rattle.payload_copying.proofs.SlottedLaws.{group-few, pad-within, group-from, group-last}
use Rattle.payload_copying.proofs.SlotLaws.{order-in, slot-laid, source-data, source-last}
use Rattle.payload_copying.proofs.lay_group.Goals as goal
use Rattle.payload_copying.proofs.lay_group.Goals.{After-group_bits-group_bits}

-- where the group starts in the padded data
start : (c : After-group_bits-group_bits) → c.args.slot.group * c.group_bits-group_bits.result ≤ 65535
start c =
    let s = c.args.slots.now in
    let g = c.args.slot.group in
    omega (arith, ap (λ (n : ℕ). g * n) c.group_bits-group_bits.ensures, group-from s.layout s.slotted g c.requires.0.group-in, s.slotted.laid.small.coded_in)

pub overflow_mul-from : goal.overflow_mul-from
overflow_mul-from c = omega (arith, start (goal.at.overflow_mul-from c).After-group_bits-group_bits)

pub overflow_add-from : goal.overflow_add-from
overflow_add-from c =
    let s = c.args.slots.now in
    omega (arith, start (goal.at.overflow_add-from c).After-group_bits-group_bits, group-few s.layout s.slotted, c.group_bits-group_bits.ensures)

pub gather-requires-clause-by_index : goal.gather-requires-clause-by_index
gather-requires-clause-by_index c =
    let s = c.args.slots.now in
    order-in s.layout s.slotted c.args.slot.copy c.order-order.result.now c.order-order.ensures _
    (simp (length-take, length-drop) (omega (arith, c.group_bits-group_bits.ensures, c.if-from-group_bits.true)))

pub returns-then-from-group_bits : goal.returns-then-from-group_bits
returns-then-from-group_bits c =
    let s = c.args.slots.now in
    let g = c.args.slot.group in
    slot-laid s.layout s.slotted c.args.slot.copy c.order-order.result.now c.order-order.ensures g c.args.coded.now _ _ _
    (source-data s.layout s.slotted c.args.slot.copy g _ c.args.coded.now (ap (λ (n : ℕ). g * n) c.group_bits-group_bits.ensures)
    (omega (arith, c.group_bits-group_bits.ensures, c.if-from-group_bits.true)) c.requires.1)
    c.gather.ensures

pub last_group-last-requires : goal.last_group-last-requires
last_group-last-requires c =
    let s = c.args.slots.now in
    let g = c.args.slot.group in
    let from = ap (λ (n : ℕ). g * n) c.group_bits-group_bits.ensures in (
      omega (arith, from, group-from s.layout s.slotted g c.requires.0.group-in, c.requires.1),
      omega (arith, pad-within s.layout s.slotted c.args.slot.copy c.requires.0.copy_in, c.requires.1),
      omega (arith, s.slotted.laid.small.coded_in, c.requires.1),
      omega (
        arith,
        from,
        group-last s.layout s.slotted g c.requires.0.group-in (omega (arith, from, c.group_bits-group_bits.ensures, c.requires.1, c.if-from-group_bits.false)),
        group-few s.layout s.slotted,
        c.requires.1,
      ),
    )

pub gather-requires-2-clause-by_index : goal.gather-requires-2-clause-by_index
gather-requires-2-clause-by_index c =
    let s = c.args.slots.now in
    order-in s.layout s.slotted c.args.slot.copy c.order-order.result.now c.order-order.ensures _ (omega (arith, group-few s.layout s.slotted, c.last_group-last.ensures.0))

pub returns : goal.returns
returns c =
    let s = c.args.slots.now in
    let g = c.args.slot.group in
    let k = c.args.slot.copy in
    let from = ap (λ (n : ℕ). g * n) c.group_bits-group_bits.ensures in
    slot-laid s.layout s.slotted k c.order-order.result.now c.order-order.ensures g c.args.coded.now c.last_group-last.result _ _
    (source-last s.layout s.slotted k g _ (k * s.layout.pad) c.args.coded.now c.last_group-last.result c.requires.0.group-in from refl
    (omega (arith, c.group_bits-group_bits.ensures, c.if-from-group_bits.false, c.requires.1)) c.requires.1 c.last_group-last.ensures.1)
    c.gather-2.ensures
