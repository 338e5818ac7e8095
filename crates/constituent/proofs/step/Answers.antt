-- `constituent::step` meets its contract. Assumes nothing.
use Rattle.constituent.proofs.StepLaws.{stepped}
use Rattle.constituent.proofs.step.Goals as goal

pub returns : goal.returns
returns c = stepped c.args.taps c.args.state c.args.pair c.requires.0 c.requires.1
