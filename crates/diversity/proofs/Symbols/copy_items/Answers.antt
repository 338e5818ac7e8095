-- `diversity::Symbols::copy_items` meets its contract. The invariant: the items of the runs passed are written. Assumes nothing.
use Rattle.std.proofs.Common.{◌≡◌, refl, sym, arith, rules}
use Rattle.bits.proofs.ListLaws.{written_none, written_all, put-whole}
use Rattle.diversity.proofs.CycleLaws.{run-put}
use Rattle.diversity.proofs.Symbols.copy_items.Goals as goal

pub loop-run-init : goal.loop-run-init
loop-run-init c =
    let start : c.into_iter-run-iterator.result.item ≡ 0 = search rules in
    (search rules, refl, written_all _ _ _ _ _ (written_none _ _) (omega arith))

pub loop-run-preserved : goal.loop-run-preserved
loop-run-preserved c =
    let inv = c.loop-run.invariant in
    let (same, (item, next, run)) = rw inv.0 at c.in-Some.ensures.steps in
    let copies = put-whole _ _ _ (search rules) c.put.ensures in (
      same,
      search rules,
      written_all _ _ _ _ _ (run-put _ _ _ _ _ _ _ _ _ _ run.on_cycle run.in_row c.cycle_of-cycle.ensures copies (rw item inv.2)) (sym next),
    )
