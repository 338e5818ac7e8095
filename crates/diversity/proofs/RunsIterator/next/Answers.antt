-- `next` of `diversity::Runs` meets its contract: what it gives is a run, and the state stands behind it. Assumes nothing.
use Rattle.std.proofs.Common.{◌-◌, ◌*◌, ◌<◌, refl, ◌∙◌, arith}
use Rattle.diversity.specs.Lanes.{item_count}
use Rattle.diversity.specs.Loops.Cycle.{IsRun}
use Rattle.diversity.proofs.CycleLaws.{begun-at, run-is}
use Rattle.diversity.proofs.RunsIterator.next.Goals as goal
use Rattle.diversity.proofs.RunsIterator.next.Goals.{After-min-length}

is-run : (c : After-min-length)
    → let self = c.begin.new.self in
    IsRun self.symbols.carriers self.symbols.offsets.now self.item (2 * c.from-bit.result) (2 * c.min-length.result)
is-run c =
    let self = c.begin.new.self in
    let before = c.args.self.now in
    let more : self.item < item_count self.symbols.carriers self.symbols.offsets.now
    = rw c.begin.ensures.0 (omega (arith, c.begin.ensures.1, before.within, c.if-self-item_count.false, c.item_count.ensures)) in
    let inside = c.begin.ensures.2 in
    let bit = c.from-bit.ensures ∙ c.lane_i.ensures in
    run-is self.symbols.carriers self.symbols.offsets.now (self.begun - 1) self.place self.item
    (begun-at self.symbols.carriers self.begun self.place self.item self.at_place inside) (omega (arith, inside)) more _ _
    (rw (self.under inside) at bit) c.min-length.ensures

pub overflow_add-self : goal.overflow_add-self
overflow_add-self c =
    let here = is-run (goal.at.overflow_add-self c).After-min-length in
    let run = rw c.begin.ensures.0 at here in
    omega (arith, run.within, c.item_count.ensures)

pub invariant_of-self : goal.invariant_of-self
invariant_of-self c =
    let self = c.begin.new.self in
    record {
      in_symbol = omega (arith, self.in_symbol, c.min-length.ensures);
      at_place = omega (arith, self.at_place);
      under = λ l. self.under c.begin.ensures.2;
      within = (is-run (goal.at.invariant_of-self c).After-min-length).within;
    }

pub returns-clause-steps : goal.returns-clause-steps
returns-clause-steps c =
    let here = is-run (goal.at.returns-clause-steps c).After-min-length in
    (c.begin.ensures.0, (c.begin.ensures.1, refl, rw c.begin.ensures.0 at here))
