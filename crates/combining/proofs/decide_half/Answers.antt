-- `combining::decide_half` meets its contract. The invariant: the first b bits are decided. Assumes nothing.
use Rattle.std.proofs.Common.{◌*◌, refl, ap, ◌∙◌, arith, length-set, rules}
use Rattle.bits.proofs.ListLaws.{written_none, written_next}
use Rattle.votes.specs.Votes.{majority}
use Rattle.votes.specs.Loops.Counters.{middle}
use Rattle.combining.proofs.CounterLaws.{pair-sum}
use Rattle.combining.proofs.decide_half.Goals as goal

pub loop-b-init : goal.loop-b-init
loop-b-init c = (search rules, search rules, written_none _ _, refl)

pub loop-b-preserved : goal.loop-b-preserved
loop-b-preserved c =
    let inv = c.loop-b.invariant in
    let sum = pair-sum c.args.both.now c.args.first c.loop-b.b _ _ c.requires.0 c.requires.1 c.loop-b-test.true inv.0 inv.1 in (
      inv.0,
      inv.1,
      written_next _ _ _ _ _ inv.2 (omega arith) (c.decide_bit.ensures ∙ ap (majority (2 * middle)) sum),
      simp length-set inv.3,
    )
