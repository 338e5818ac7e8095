-- `record::block_same` meets its contract. The invariant: what is found so far tells of the elements before i. Assumes nothing.
use Rattle.std.proofs.Common.{arith}
use Rattle.record.proofs.ExpectedLaws.{told_none, told_next}
use Rattle.record.proofs.block_same.Goals as goal

pub loop-i-init : goal.loop-i-init
loop-i-init g c = told_none _ _

pub loop-i-preserved : goal.loop-i-preserved
loop-i-preserved g c =
    told_next c.args.from c.loop-i.i (g.T.Element.same c.args.out.now c.args.expected.now) c.loop-i.alike c.same-alike.result c.same-alike.ensures c.loop-i.auto.i c.loop-i.invariant

pub returns-clause-alike : goal.returns-clause-alike
returns-clause-alike g c = λ is i low high. c.loop-i.invariant.alike is i low (omega (arith, high, c.loop-i-test.false))

pub returns-clause-other : goal.returns-clause-other
returns-clause-other g c =
    λ is. let (i, low, high, e) = c.loop-i.invariant.other is in (i, low, omega (arith, high, c.loop-i.auto.i-end), e)
