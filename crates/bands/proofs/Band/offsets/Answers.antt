-- `bands::Band::offsets` meets its contract. Assumes nothing.
use Rattle.bands.proofs.BandLaws.{offsets_are}
use Rattle.bands.proofs.Band.offsets.Goals as goal

pub returns : goal.returns
returns c = offsets_are _ _ c.symbols.ensures
