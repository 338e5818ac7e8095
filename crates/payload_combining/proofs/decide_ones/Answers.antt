-- `payload_combining::decide_ones` meets its contract. Assumes nothing.
use native.Mathlib.Omega.{arith}
use Rattle.bits.proofs.ListLaws.{written_none, written_next}
use Rattle.payload_combining.proofs.decide_ones.Goals as goal

pub loop-b-init : goal.loop-b-init
loop-b-init c = written_none _ _

pub loop-b-preserved : goal.loop-b-preserved
loop-b-preserved c = written_next _ _ _ _ _ c.loop-b.invariant (omega arith) c.of_one.ensures
