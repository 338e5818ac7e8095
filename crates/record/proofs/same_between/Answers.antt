-- `record::same_between` meets its contract. The invariant: the elements before i are as expected. Assumes nothing.
use Rattle.std.proofs.Common.{◌≡◌, true, ℕ, sym, subst, ◌∙◌, arith}
use Rattle.bits.proofs.NumberLaws.{lt-cases}
use Rattle.record.proofs.same_between.Goals as goal

pub loop-i-init : goal.loop-i-init
loop-i-init g c = λ k low high. absurd (omega (arith, low, high))

pub loop-i-preserved : goal.loop-i-preserved
loop-i-preserved g c =
    let here = sym c.same.ensures ∙ c.if-not-same.false in
    λ k low high. lt-cases k c.loop-i.i
    (λ l. c.loop-i.invariant k low l)
    (λ l. subst (λ (m : ℕ). g.T.Element.same c.args.out.now c.args.expected.now m ≡ true) (omega (arith, l, high)) here)

pub returns-clause-alike : goal.returns-clause-alike
returns-clause-alike g c = λ is k low high. c.loop-i.invariant k low (omega (arith, high, c.loop-i-test.false))
