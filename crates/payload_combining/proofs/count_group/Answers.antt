-- `payload_combining::count_group` meets its contract: one run, or two. Assumes nothing.
use mathlib.Core.Path.{◌≡◌, refl, ap}
use Prim.Native.Nat.{ℕ, ◌+◌, ◌-◌, ◌*◌}
use native.Mathlib.Omega.{arith}
use lib.ListN.{length}
use Rattle.payload_layout.specs.Layouts.{group_bits}
use Rattle.payload_copying.proofs.SlottedLaws.{group-few, group-from, group-last, pad-within}
use Rattle.votes.proofs.CounterLaws.{adds-all}
use Rattle.payload_combining.proofs.VoteLaws.{data-adds, pad-adds}
use Rattle.payload_combining.proofs.count_group.Goals as goal
use Rattle.payload_combining.proofs.count_group.Goals.{After-group_bits-group_bits}

-- where the group starts in the padded data
from_is : (c : After-group_bits-group_bits) → c.args.slot.group * c.group_bits-group_bits.result ≡ c.args.slot.group * group_bits c.args.slots.now.layout
from_is c = ap (λ (n : ℕ). c.args.slot.group * n) c.group_bits-group_bits.ensures

pub overflow_mul-from : goal.overflow_mul-from
overflow_mul-from c =
    let s = c.args.slots.now in
    omega (arith, from_is (goal.at.overflow_mul-from c).After-group_bits-group_bits, group-from s.layout s.slotted c.args.slot.group c.requires.0.group-in, s.slotted.laid.small.coded_in)

pub overflow_add-from : goal.overflow_add-from
overflow_add-from c =
    let s = c.args.slots.now in
    omega (
      arith,
      from_is (goal.at.overflow_add-from c).After-group_bits-group_bits,
      group-from s.layout s.slotted c.args.slot.group c.requires.0.group-in,
      s.slotted.laid.small.coded_in,
      c.group_bits-group_bits.ensures,
      group-few s.layout s.slotted,
    )

pub count_run-requires : goal.count_run-requires
count_run-requires c =
    let s = c.args.slots.now in
    (omega (arith, c.group_bits-group_bits.ensures, group-few s.layout s.slotted, c.told-group), omega (arith, c.requires.1, c.if-from-group_bits.true))

pub returns-then-from-group_bits : goal.returns-then-from-group_bits
returns-then-from-group_bits c =
    let L = c.args.slots.now.layout in
    let from = from_is (goal.at.returns-then-from-group_bits c).After-group_bits-group_bits in
    adds-all L.coded 0 _ c.args.group.now c.args.counters.now c.group_bits-group_bits.result (group_bits L) _
    (data-adds L c.args.slot.copy c.args.slot.group _ from _ c.args.group.now c.args.counters.now _ c.if-from-group_bits.true (rw c.requires.1 at c.count_run.ensures))
    c.group_bits-group_bits.ensures

pub overflow_sub-rest : goal.overflow_sub-rest
overflow_sub-rest c =
    let s = c.args.slots.now in
    omega (arith, from_is (goal.at.overflow_sub-rest c).After-group_bits-group_bits, group-from s.layout s.slotted c.args.slot.group c.requires.0.group-in)

pub count_run-requires-2 : goal.count_run-requires-2
count_run-requires-2 c =
    let s = c.args.slots.now in
    let from = from_is (goal.at.count_run-requires-2 c).After-group_bits-group_bits in
    let low = group-from s.layout s.slotted c.args.slot.group c.requires.0.group-in in (
      omega (arith, c.group_bits-group_bits.ensures, group-few s.layout s.slotted, c.told-group, c.if-from-group_bits.false),
      omega (arith, c.requires.1, from, low),
    )

pub overflow_mul-slot : goal.overflow_mul-slot
overflow_mul-slot c =
    let s = c.args.slots.now in
    omega (arith, pad-within s.layout s.slotted c.args.slot.copy c.requires.0.copy_in, s.slotted.laid.small.coded_in)

pub count_run-requires-3 : goal.count_run-requires-3
count_run-requires-3 c =
    let s = c.args.slots.now in
    let g = c.args.slot.group in
    let size = c.group_bits-group_bits.ensures in
    let from = from_is (goal.at.count_run-requires-3 c).After-group_bits-group_bits in
    let low = group-from s.layout s.slotted g c.requires.0.group-in in
    let left = c.if-from-group_bits.false in
    let whole = group-last s.layout s.slotted g c.requires.0.group-in (omega (arith, size, from, left)) in (
      omega (arith, size, group-few s.layout s.slotted, c.told-group, from, low, left),
      omega (arith, c.requires.1, size, from, low, whole, pad-within s.layout s.slotted c.args.slot.copy c.requires.0.copy_in),
    )

pub returns : goal.returns
returns c =
    let s = c.args.slots.now in
    let L = s.layout in
    let n = c.group_bits-group_bits.result in
    let from : ℕ = c.args.slot.group * n in
    let rest : ℕ = L.coded - from in
    let at = from_is (goal.at.returns c).After-group_bits-group_bits in
    let left = c.if-from-group_bits.false in
    let low = group-from L s.slotted c.args.slot.group c.requires.0.group-in in
    let long : length c.count_run-2.new.counters ≡ L.coded = omega (arith, c.requires.1) in
    adds-all L.coded 0 _ c.args.group.now c.args.counters.now (rest + (n - rest)) (group_bits L) _
    (pad-adds L c.args.slot.copy c.args.slot.group from at rest (c.args.slot.copy * L.pad) (omega (arith, at, low)) refl (n - rest) c.args.group.now c.args.counters.now _ _
    (rw c.requires.1 at c.count_run-2.ensures) (rw long at c.count_run-3.ensures))
    (omega (arith, c.group_bits-group_bits.ensures, at, left, low))
