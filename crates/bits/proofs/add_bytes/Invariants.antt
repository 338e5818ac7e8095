-- `bits::add_bytes` meets its contract. The invariant: the first i bytes are written. Assumes nothing.
use mathlib.Core.Path.{◌≡◌}
use lib.Bits.{bit_xor}
use lib.ListN.{get_or}
use Rattle.bits.specs.Lists.{written}
use Rattle.bits.proofs.add_bytes.Given as goal

abbrev pub invariant-loop-i : goal.invariant-loop-i
invariant-loop-i l = l.out ≡ written l.i (λ k. bit_xor (get_or l.bytes k 0) (get_or l.initial.out k 0)) l.initial.out
