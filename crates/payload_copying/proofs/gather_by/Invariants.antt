-- `payload_copying::gather_by` meets its contract. The invariant: the first p carriers are laid. Assumes nothing.
use mathlib.Core.Path.{◌≡◌}
use Prim.Native.Nat.{◌*◌}
use Rattle.bits.specs.Lists.{written}
use Rattle.payload_copying.specs.Loops.Slots.{taken}
use Rattle.payload_copying.proofs.gather_by.Given as goal

abbrev pub invariant-loop-p : goal.invariant-loop-p
invariant-loop-p g l = l.out ≡ written (l.p * g.row.BITS) (taken g.row.BITS l.order l.src) l.initial.out
