-- `slicing::erasure_width` meets its contract. Assumes nothing.
use mathlib.Core.Path.{ap}
use lib.Ieee.{Float, binary64, of_bits, mul}
use Rattle.slicing.specs.Slicing.{erasure_fraction}
use Rattle.slicing.proofs.erasure_width.Goals as goal

pub returns : goal.returns
unfolding of_bits
returns c = ap (λ (f : Float). mul binary64 f erasure_fraction) c.factor_of.ensures
