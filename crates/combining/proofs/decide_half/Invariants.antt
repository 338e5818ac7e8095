-- `combining::decide_half` meets its contract. The invariant: the first b bits are decided. Assumes nothing.
use mathlib.Core.Path.{◌≡◌}
use Prim.Native.Nat.{◌+◌, ◌*◌, ◌%◌}
use lib.ListN.{length}
use Rattle.bits.specs.Lists.{written}
use Rattle.votes.specs.Votes.{majority}
use Rattle.votes.specs.Loops.Counters.{middle}
use Rattle.combining.specs.Loops.Counters.{pair_sum}
use Rattle.combining.proofs.decide_half.Given as goal

abbrev pub invariant-loop-b : goal.invariant-loop-b
invariant-loop-b l =
    (l.i ≡ (l.first + 0) % 256) × (l.q ≡ (l.first + 0 + 128) % 256)
    × (l.bits ≡ written l.b (λ b. majority (2 * middle) (pair_sum l.both (l.first + b))) l.initial.bits) × (length l.bits ≡ length l.initial.bits)
