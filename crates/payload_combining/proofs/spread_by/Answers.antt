-- `payload_combining::spread_by` meets its contract. Assumes nothing.
use Rattle.payload_combining.proofs.SpreadLaws.{spread-next}
use Rattle.payload_combining.proofs.spread_by.Goals as goal

pub loop-p-preserved : goal.loop-p-preserved
loop-p-preserved g c =
    spread-next g.row.BITS c.loop-p.p _ _ _ _ _ _ c.requires.permutes c.loop-p-test.true c.from.ensures c.copy_carrier.ensures c.loop-p.invariant
