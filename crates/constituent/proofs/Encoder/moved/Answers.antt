-- `constituent::Encoder::moved` meets its contract. Assumes nothing.
use mathlib.Core.Path.{◌∙◌}
use Rattle.constituent.proofs.ByteLaws.{entry-at, state-after}
use Rattle.constituent.proofs.Encoder.moved.Goals as goal

pub returns-clause-after : goal.returns-clause-after
returns-clause-after c s small e =
    let o = c.args.self.now in
    state-after o.taps s c.args.byte _ _ small (c.from-2.ensures ∙ entry-at o.taps o.table.now o.words c.from.ensures c.ranges.byte) o.after _ e
