-- `payload_combining::spread_by` meets its contract. The invariant: the first p carriers are back. Assumes nothing.
use Rattle.payload_combining.proofs.SpreadLaws.{Spread}
use Rattle.payload_combining.proofs.spread_by.Given as goal

abbrev pub invariant-loop-p : goal.invariant-loop-p
invariant-loop-p g l = Spread g.row.BITS l.p l.order l.items l.group
