-- `constituent::double` meets its contract. The invariant: half + i entries are what they shall be. Assumes nothing.
use mathlib.Core.Path.{◌≡◌}
use Prim.Native.Nat.{◌+◌}
use Rattle.bits.specs.Lists.{written}
use Rattle.constituent.specs.Loops.Bytes.{byte_word}
use Rattle.constituent.proofs.double.Given as goal

abbrev pub invariant-loop-i : goal.invariant-loop-i
invariant-loop-i l = l.table ≡ written (l.half + l.i) (byte_word l.taps 0) l.initial.table
