-- `payload_combining::count_wide` meets its contract. Assumes nothing.
use native.Mathlib.Omega.{arith}
use Rattle.votes.proofs.CounterLaws.{alone}
use Rattle.payload_combining.proofs.SpreadLaws.{order-permutes, slot-spread, slot_counted}
use Rattle.payload_combining.proofs.count_wide.Goals as goal
use Rattle.payload_combining.proofs.count_wide.Goals.{After-spread}

pub spread-requires-clause-permutes : goal.spread-requires-clause-permutes
spread-requires-clause-permutes c =
    let s = c.args.slots.now in
    order-permutes s.layout s.slotted c.args.slot.copy c.args.slot.group _ c.order.ensures

pub returns : goal.returns
returns c =
    let s = c.args.slots.now in
    let k = c.args.slot.copy in
    let g = c.args.slot.group in
    let items = c.args.items.now in
    let group = c.spread.new.group in
    let bytes = (goal.at.returns c).After-spread.type_inv.counters in
    slot_counted s.layout s.slotted k g items group c.args.counters.now _
    (slot-spread s.layout s.slotted k g _ c.order.ensures items group c.spread.ensures)
    (alone s.layout.coded _ _ _ _ _ c.count_group.ensures c.requires.2 (λ q l. omega (arith, bytes q)))
