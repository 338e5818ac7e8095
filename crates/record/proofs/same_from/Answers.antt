-- `record::same_from` meets its contract. The invariant: the elements of the blocks before b are as expected. Assumes nothing.
use Rattle.std.proofs.Common.{◌+◌, ◌*◌, arith}
use Rattle.bits.proofs.NumberLaws.{lt-cases}
use Rattle.record.proofs.same_from.Goals as goal

pub loop-b-init : goal.loop-b-init
loop-b-init g c = λ k low high. absurd (omega (arith, low, high))

pub loop-b-preserved : goal.loop-b-preserved
loop-b-preserved g c =
    λ k low high. lt-cases k (c.args.from + c.loop-b.b * 64)
    (λ l. c.loop-b.invariant k low l)
    (λ l. c.block_same.ensures.alike c.if-not-block_same.false k (omega (arith, l)) (omega (arith, high)))

pub returns-clause-alike : goal.returns-clause-alike
returns-clause-alike g c =
    λ is k low high. lt-cases k (c.args.from + c.loop-b.b * 64)
    (λ l. c.loop-b.invariant k low l)
    (λ l. c.same_between.ensures.alike is k (omega (arith, l, c.loop-b-test.false)) high)
