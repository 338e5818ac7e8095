-- `bits::pack` meets its contract. The invariant: the first k bytes are written. Assumes nothing.
use native.Mathlib.Omega.{arith}
use Rattle.bits.proofs.ListLaws.{written_none, written_next}
use Rattle.bits.proofs.pack.Goals as goal

pub loop-k-init : goal.loop-k-init
loop-k-init c = written_none _ _

pub loop-k-preserved : goal.loop-k-preserved
loop-k-preserved c = written_next _ _ _ _ _ c.loop-k.invariant (omega arith) c.pack_byte.ensures
