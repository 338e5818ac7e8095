-- `bands::Band::carriers` meets its contract. Assumes nothing.
use Rattle.std.proofs.Common.{rules}
use Rattle.bands.specs.Bands.{carriers}
use Rattle.bands.proofs.Band.carriers.Goals as goal

pub returns : goal.returns
unfolding carriers
returns c = search rules
