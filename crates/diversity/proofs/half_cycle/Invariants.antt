-- `diversity::half_cycle` meets its contract. The invariant: the bits of the places passed are written. Assumes nothing.
use Rattle.std.proofs.Common.{◌≡◌, ◌+◌, ◌*◌, ◌%◌, length, get_or}
use Rattle.bits.specs.Lists.{written}
use Rattle.diversity.specs.Loops.Cycle.{cycle_bit}
use Rattle.diversity.proofs.half_cycle.Given as goal

abbrev pub invariant-loop-c : goal.invariant-loop-c
invariant-loop-c l =
    (l.i ≡ (l.place + 0) % 256) × (l.q ≡ (l.place + 0 + 128) % 256)
    × (l.cycle ≡ written (2 * l.c) (λ n. get_or l.coded (cycle_bit (2 * l.place + n)) 0) l.initial.cycle) × (length l.cycle ≡ length l.initial.cycle)
