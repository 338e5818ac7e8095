-- `bits::unpack` meets its contract. The invariant: the bits of the first k bytes are written. Assumes nothing.
use mathlib.Core.Path.{◌≡◌}
use Prim.Native.Nat.{◌*◌}
use Rattle.bits.specs.Bits.{bit_of}
use Rattle.bits.specs.Lists.{written}
use Rattle.bits.proofs.unpack.Given as goal

abbrev pub invariant-loop-k : goal.invariant-loop-k
invariant-loop-k l = l.out ≡ written (8 * l.k) (bit_of l.bytes) l.initial.out
