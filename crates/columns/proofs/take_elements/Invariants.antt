-- `columns::take_elements` meets its contract. The invariant: the elements of the first r rows are stored. Assumes nothing.
use mathlib.Core.Path.{◌≡◌}
use Prim.Native.Nat.{◌*◌}
use lib.ListN.{get_or}
use Rattle.bits.specs.Loops.Words.{stored}
use Rattle.columns.specs.Columns.{unrowed}
use Rattle.columns.proofs.RowLaws.{place}
use Rattle.columns.proofs.take_elements.Given as goal

abbrev pub invariant-loop-r : goal.invariant-loop-r
invariant-loop-r l =
    l.out ≡ stored (4 * l.r) (place l.height) (λ k. unrowed l.height (λ j. get_or l.rows j 0) (place l.height k)) l.initial.out
