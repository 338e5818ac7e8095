-- `address_interleaver::fill_interleaver` meets its contract: with step 0 there is one column. Assumes nothing.
use Rattle.std.proofs.Common.{length, ◌∙◌, rules, arith}
use Rattle.address_interleaver.proofs.WalkLaws.{still-row, stepped-row}
use Rattle.address_interleaver.proofs.fill_interleaver.Goals as goal

pub returns-then-step-eq0 : goal.returns-then-step-eq0
returns-then-step-eq0 c =
    λ p h. c.walk.ensures p h ∙ still-row (length c.args.out.now) c.args.step c.args.k c.args.base p (omega arith) (search rules)

pub returns-else-step-eq0 : goal.returns-else-step-eq0
returns-else-step-eq0 c =
    λ p h. c.walk-else-step-eq0.ensures p h ∙ stepped-row (length c.args.out.now) c.args.step c.args.k c.args.base p (λ e. omega arith)
