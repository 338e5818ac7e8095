-- `constituent::Encoder::given` meets its contract. Assumes nothing.
use Rattle.constituent.proofs.ByteLaws.{entry-at, parities-after}
use Rattle.constituent.proofs.Encoder.given.Goals as goal

pub returns : goal.returns
returns c s small e =
    let o = c.args.self.now in
    parities-after o.taps s c.args.byte _ _ small (entry-at o.taps o.table.now o.words c.from.ensures c.ranges.byte) o.gives _ e
