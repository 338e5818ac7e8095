-- `constituent::Encoder::pass_one` meets its contract. Assumes nothing.
use mathlib.Core.Path.{refl}
use Rattle.constituent.proofs.FoldLaws.{ended-folded}
use Rattle.constituent.proofs.Encoder.pass_one.Goals as goal

pub returns : goal.returns
returns c =
    ended-folded c.args.self.now.taps _ c.args.bytes.now c.args.second.now _ _ c.walk-2.result refl c.requires
    c.fold.ensures c.fold-2.ensures c.walk-2.ensures
