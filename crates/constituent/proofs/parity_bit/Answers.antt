-- `constituent::parity_bit` meets its contract. Assumes nothing.
use Rattle.constituent.proofs.StepLaws.{tapped}
use Rattle.constituent.proofs.parity_bit.Goals as goal

pub returns : goal.returns
returns c = tapped c.args.taps c.args.state c.args.pair c.requires.0 c.requires.1
