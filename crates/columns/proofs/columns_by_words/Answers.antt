-- `columns::columns_by_words` meets its contract. The invariant: the first i bytes of each column are stored. Assumes nothing.
use mathlib.Core.Path.{◌∙◌}
use Prim.Native.Nat.{◌*◌}
use native.Mathlib.Omega.{arith}
use lib.ListN.{get_or}
use Rattle.bits.specs.Bits.{byte_of}
use Rattle.bits.proofs.StoreLaws.{stored-none}
use Rattle.columns.specs.Columns.{unrowed}
use Rattle.columns.proofs.ColumnLaws.{column-next, columns-all, unrowed-byte}
use Rattle.columns.proofs.columns_by_words.Goals as goal

pub loop-i-init : goal.loop-i-init
loop-i-init c = stored-none _ _ _

pub loop-i-preserved : goal.loop-i-preserved
loop-i-preserved c =
    let l = c.loop-i in
    let a = c.args in
    c.scatter.ensures
    ∙ column-next a.height l.i _ (byte_of (unrowed (8 * a.height) (λ j. get_or a.rows.now j 0))) _ _ l.invariant (λ k h.
    c.take_rows.ensures k h ∙ unrowed-byte a.height l.i k (λ j. get_or a.rows.now j 0) (omega arith))

pub returns : goal.returns
returns c =
    let a = c.args in
    columns-all a.height (byte_of (unrowed (8 * a.height) (λ j. get_or a.rows.now j 0))) a.out.now _ _ c.loop-i.invariant (omega arith) (omega arith)
