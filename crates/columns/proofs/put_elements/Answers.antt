-- `columns::put_elements` meets its contract. The invariant: the first r rows are written. Assumes nothing.
use mathlib.Core.Path.{◌∙◌}
use native.Mathlib.Omega.{arith}
use Rattle.bits.proofs.ListLaws.{written_none}
use Rattle.columns.proofs.RowLaws.{row_next, rowed-bits}
use Rattle.columns.proofs.put_elements.Goals as goal

pub loop-r-init : goal.loop-r-init
loop-r-init c = written_none _ _

pub loop-r-preserved : goal.loop-r-preserved
loop-r-preserved c =
    let l = c.loop-r in
    c.scatter.ensures ∙ row_next l.r _ _ _ _ l.invariant (omega arith) (λ k h. c.gather.ensures k h ∙ rowed-bits _ l.r k _ h)
