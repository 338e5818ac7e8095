-- `bits::disagreements` meets its contract. The invariant: n is the count among the bits of the bytes so far. Assumes nothing.
use mathlib.Core.Path.{◌≡◌}
use Prim.Native.Nat.{◌*◌}
use lib.ListN.{length}
use Rattle.bits.specs.Sums.{count}
use Rattle.bits.proofs.DifferLaws.{unlike}
use Rattle.bits.proofs.disagreements.Given as goal

abbrev pub invariant-loop-x : goal.invariant-loop-x
invariant-loop-x l = l.n ≡ count (8 * length l.yielded) (unlike l.a l.b)
