-- `combining::counters_of` meets its contract. The invariant: the items of the runs passed are counted. Assumes nothing.
use Rattle.std.proofs.Common.{◌≡◌, arith, rules}
use Rattle.votes.proofs.CounterLaws.{adds_none}
use Rattle.combining.proofs.CounterLaws.{run-counted}
use Rattle.combining.proofs.counters_of.Goals as goal

pub loop-run-init : goal.loop-run-init
loop-run-init c =
    let start : c.into_iter-run-iterator.result.item ≡ 0 = search rules in
    (search rules, search rules, rw start (adds_none _ _ _ _ _))

pub count_run-requires : goal.count_run-requires
count_run-requires c =
    let inv = c.loop-run.invariant in
    let (same, (item, next, run)) = rw inv.0 at c.in-Some.ensures.steps in
    (omega (arith, run.within), omega (arith, run.on_cycle, inv.1))

pub loop-run-preserved : goal.loop-run-preserved
loop-run-preserved c =
    let inv = c.loop-run.invariant in
    let (same, (item, next, run)) = rw inv.0 at c.in-Some.ensures.steps in
    (same, search rules, run-counted _ _ _ _ _ _ _ _ _ _ _ run.in_row item next inv.1 inv.2 c.count_run.ensures)

pub returns : goal.returns
returns c =
    let inv = c.loop-run.invariant in
    let all = rw inv.0 at c.in-None.ensures.steps.1 in
    rw (← all) inv.2
