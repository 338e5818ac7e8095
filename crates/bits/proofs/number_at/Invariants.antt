-- `bits::number_at` meets its contract. The invariant: the number in the bytes so far. Assumes nothing.
use mathlib.Core.Path.{◌≡◌}
use Prim.Native.Nat.{◌*◌}
use Rattle.bits.specs.Bits.{field}
use Rattle.bits.proofs.number_at.Given as goal

abbrev pub invariant-loop-byte : goal.invariant-loop-byte
invariant-loop-byte l = l.number ≡ field l.bytes (8 * l.at) (8 * l.byte-index)
