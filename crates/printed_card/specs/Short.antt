-- A card whose text is short. Assumes nothing.
use Rattle.std.specs.Prelude.{◌<◌}
use Rattle.card.specs.declared.Card.{Card}

-- each field but copies, taps and serial has one digit, and copies at most two
pub record Short (c : Card) : Type 0 where
  pub version-lt : c.version < 10
  pub band-lt : c.band < 10
  pub kind-lt : c.kind < 10
  pub rate-lt : c.rate < 10
  pub modulation-lt : c.modulation < 10
  pub blocks-lt : c.blocks < 10
  pub copies-lt : c.copies < 100
