-- `payload::Plan::of` meets its contract: a defined kind and rate have some coded bits, and few. Assumes nothing.
use native.Mathlib.Omega.{arith}
use Rattle.interleaver_shape.proofs.ShapeLaws.{coded-some, coded-le}
use Rattle.payload.proofs.Plan.of.Goals as goal

pub layout_of-layout-requires : goal.layout_of-layout-requires
layout_of-layout-requires c = (
  c.requires.band-lt,
  c.requires.modulation-lt,
  c.requires.copies,
  omega (arith, c.coded_bits.ensures, coded-some c.args.c.now.kind c.args.c.now.rate c.requires.kinds),
  omega (arith, c.coded_bits.ensures, coded-le c.args.c.now.kind c.args.c.now.rate c.requires.kinds),
)
