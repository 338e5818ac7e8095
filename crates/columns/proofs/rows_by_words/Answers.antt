-- `columns::rows_by_words` meets its contract. The invariant: eight rows for each of the first i bytes are written. Assumes nothing.
use Prim.Native.Nat.{◌*◌}
use native.Mathlib.Omega.{arith}
use Rattle.bits.specs.Bits.{bit_of}
use Rattle.bits.proofs.ListLaws.{written_none, written-part, written_all}
use Rattle.columns.specs.Columns.{rowed}
use Rattle.columns.proofs.RowLaws.{rowed-word}
use Rattle.columns.proofs.rows_by_words.Goals as goal

pub loop-i-init : goal.loop-i-init
loop-i-init c = written_none _ _

pub loop-i-preserved : goal.loop-i-preserved
loop-i-preserved c =
    let a = c.args in
    let l = c.loop-i in
    written_all _ _ _ _ _
    (written-part (32 * l.i) 32 (rowed (8 * a.height) (bit_of a.bytes.now)) _ _ _ _ l.invariant
    (rowed-word a.height l.i _ a.bytes.now c.gather.ensures)
    c.put_rows.ensures)
    (omega arith)
