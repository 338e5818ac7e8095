-- `payload_combining::decide_ones` meets its contract. The invariant: the first b bits are decided. Assumes nothing.
use mathlib.Core.Path.{◌≡◌}
use lib.ListN.{get_or}
use Rattle.bits.specs.Lists.{written}
use Rattle.payload_combining.specs.Loops.Copies.{of_one}
use Rattle.payload_combining.proofs.decide_ones.Given as goal

abbrev pub invariant-loop-b : goal.invariant-loop-b
invariant-loop-b l = l.out ≡ written l.b (λ b. of_one (get_or l.items b 0)) l.initial.out
