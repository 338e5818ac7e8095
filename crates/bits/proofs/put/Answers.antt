-- `bits::put` meets its contract. The invariant: the first i elements are written. Assumes nothing.
use mathlib.Core.Path.{refl}
use native.Mathlib.Omega.{arith}
use Rattle.bits.proofs.ListLaws.{written_none, written_next, written-put}
use Rattle.bits.proofs.put.Goals as goal

pub loop-i-init : goal.loop-i-init
loop-i-init c = written_none _ _

pub loop-i-preserved : goal.loop-i-preserved
loop-i-preserved c = written_next _ _ _ _ _ c.loop-i.invariant (omega arith) refl

pub returns : goal.returns
returns c = written-put _ 0 c.args.src.now _ _ c.loop-i.invariant (omega arith)
