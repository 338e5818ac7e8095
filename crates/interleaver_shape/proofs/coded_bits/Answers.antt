-- `interleaver_shape::coded_bits` meets its contract. Assumes nothing.
use mathlib.Core.Path.{ap}
use Rattle.interleaver_shape.specs.Shapes.{coded_of, coded_bits}
use Rattle.interleaver_shape.proofs.coded_bits.Goals as goal

pub returns : goal.returns
unfolding coded_bits
returns c = ap coded_of c.shape_of-shape.ensures.0
