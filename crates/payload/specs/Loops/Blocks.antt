-- A block and its layout. Assumes nothing.
use Rattle.std.specs.Prelude.{◌≡◌, ℕ}
use Rattle.card.specs.Modes.{Defined}
use Rattle.interleaver_shape.specs.Shapes.{coded_bits}
use Rattle.payload_layout.specs.declared.Layout.{Layout}
use Rattle.payload_layout.specs.Loops.Bounds.{Laid}

-- a layout of as many coded bits as a block of a kind and rate has
pub record LaidBlock (L : Layout) (kind rate : ℕ) : Type 0 where
  pub defined : Defined kind rate
  pub laid : Laid L
  pub count : L.coded ≡ coded_bits kind rate
