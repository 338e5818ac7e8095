-- `columns::put_elements` meets its contract. The invariant: the first r rows are written. Assumes nothing.
use mathlib.Core.Path.{◌≡◌}
use Prim.Native.Nat.{◌*◌}
use lib.ListN.{get_or}
use Rattle.bits.specs.Lists.{written}
use Rattle.columns.specs.Columns.{rowed}
use Rattle.columns.proofs.put_elements.Given as goal

abbrev pub invariant-loop-r : goal.invariant-loop-r
invariant-loop-r l = l.out ≡ written (4 * l.r) (rowed l.height (λ k. get_or l.bits k 0)) l.initial.out
