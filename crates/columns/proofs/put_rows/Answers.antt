-- `columns::put_rows` meets its contract. The invariant: the first j rows are written. Assumes nothing.
use mathlib.Core.Path.{◌∙◌}
use native.Mathlib.Omega.{arith}
use Rattle.bits.proofs.ListLaws.{written_none}
use Rattle.columns.proofs.RowLaws.{row_next, word_row}
use Rattle.columns.proofs.put_rows.Goals as goal

pub loop-j-init : goal.loop-j-init
loop-j-init c = written_none _ _

pub loop-j-preserved : goal.loop-j-preserved
loop-j-preserved c =
    let l = c.loop-j in
    c.scatter.ensures ∙ row_next l.j _ _ _ _ l.invariant (omega arith) (λ k h. word_row _ _ l.j k h (c.row.ensures k h))
