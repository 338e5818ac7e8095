-- `payload_copying::lay_slots` meets its contract. The invariant: the items passed are laid. Assumes nothing.
use mathlib.Core.Path.{◌≡◌}
use lib.ListN.{get_or}
use Rattle.bits.specs.Lists.{written}
use Rattle.payload_layout.specs.Items.{sent_on}
use Rattle.payload_copying.proofs.lay_slots.Given as goal

abbrev pub invariant-loop-slot : goal.invariant-loop-slot
invariant-loop-slot l =
    (l.slot-iterator.slots.now.layout ≡ l.slots.layout)
    × (l.out ≡ written l.slot-iterator.start (sent_on l.slots.layout (λ b. get_or l.coded b 0)) l.initial.out)
