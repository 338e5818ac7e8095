-- `record::block_same` meets its contract. The invariant: what is found so far tells of the elements before i. Assumes nothing.
use Rattle.record.proofs.ExpectedLaws.{Told}
use Rattle.record.proofs.block_same.Given as goal

abbrev pub invariant-loop-i : goal.invariant-loop-i
invariant-loop-i g l = Told l.from l.i (g.T.Element.same l.out l.expected) l.alike
