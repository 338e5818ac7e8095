-- `payload_combining::count_slots` meets its contract. The invariant: the items passed are counted. Assumes nothing.
use mathlib.Core.Path.{◌≡◌}
use Rattle.votes.specs.Loops.Counters.{counted}
use Rattle.payload_layout.specs.Items.{carries}
use Rattle.payload_combining.specs.Loops.Groups.{middles}
use Rattle.payload_combining.proofs.count_slots.Given as goal

abbrev pub invariant-loop-slot : goal.invariant-loop-slot
invariant-loop-slot l =
    (l.slot-iterator.slots.now.layout ≡ l.slots.layout)
    × (l.counters ≡ counted l.slots.layout.coded l.slot-iterator.start (carries l.slots.layout) l.items (middles l.slots.layout))
