-- `bits::pack` meets its contract. The invariant: the first k bytes are written. Assumes nothing.
use mathlib.Core.Path.{◌≡◌}
use lib.ListN.{get_or}
use Rattle.bits.specs.Bits.{byte_of}
use Rattle.bits.specs.Lists.{written}
use Rattle.bits.proofs.pack.Given as goal

abbrev pub invariant-loop-k : goal.invariant-loop-k
invariant-loop-k l = l.out ≡ written l.k (byte_of (λ i. get_or l.bits i 0)) l.initial.out
