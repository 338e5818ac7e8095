-- `payload_combining::decide_twos` meets its contract. The invariant: the first b bits are decided. Assumes nothing.
use mathlib.Core.Path.{◌≡◌}
use lib.ListN.{get_or}
use Rattle.bits.specs.Lists.{written}
use Rattle.payload_combining.specs.Loops.Copies.{of_two}
use Rattle.payload_combining.proofs.decide_twos.Given as goal

abbrev pub invariant-loop-b : goal.invariant-loop-b
invariant-loop-b l = l.out ≡ written l.b (λ b. of_two (get_or l.items b 0) (get_or l.pad b 0)) l.initial.out
