-- `columns::columns_by_words` meets its contract. The invariant: the first i bytes of each column are stored. Assumes nothing.
use mathlib.Core.Path.{◌≡◌}
use Prim.Native.Nat.{◌*◌}
use lib.ListN.{get_or}
use Rattle.bits.specs.Bits.{byte_of}
use Rattle.bits.specs.Loops.Words.{stored}
use Rattle.columns.specs.Columns.{unrowed}
use Rattle.columns.proofs.RowLaws.{place}
use Rattle.columns.proofs.columns_by_words.Given as goal

abbrev pub invariant-loop-i : goal.invariant-loop-i
invariant-loop-i l =
    l.out ≡ stored (4 * l.i) (place l.height) (λ k. byte_of (unrowed (8 * l.height) (λ j. get_or l.rows j 0)) (place l.height k)) l.initial.out
