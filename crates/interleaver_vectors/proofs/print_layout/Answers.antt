-- Both lists have room for the coded bits of any block.
use Rattle.std.proofs.Common.{arith}
use Rattle.interleaver_shape.proofs.ShapeLaws.{coded-le}
use Rattle.interleaver_vectors.proofs.print_layout.Goals as goal

pub shuffle-requires : goal.shuffle-requires
shuffle-requires g c = (omega arith, omega (arith, coded-le c.args.coding.kind c.args.coding.rate c.args.coding.defined))

pub shuffle-requires-2 : goal.shuffle-requires-2
shuffle-requires-2 g c = (omega arith, omega (arith, coded-le c.args.coding.kind c.args.coding.rate c.args.coding.defined))
