-- `payload_combining::count_narrow` meets its contract. The invariant: the carriers passed are counted. Assumes nothing.
use mathlib.Core.Path.{◌≡◌}
use lib.ListN.{length}
use Rattle.votes.specs.Loops.Counters.{counted}
use Rattle.payload_combining.specs.Loops.Groups.{slot_on}
use Rattle.payload_combining.proofs.count_narrow.Given as goal

abbrev pub invariant-loop-address : goal.invariant-loop-address
invariant-loop-address l = l.counters ≡ counted l.slots.layout.coded (length l.yielded) (slot_on l.slots.layout l.slot.copy l.slot.group) l.items l.initial.counters
