-- `constellation::level2` meets its contract. Assumes nothing.
use mathlib.Core.Path.{◌≡◌}
use native.Mathlib.Omega.{arith}
use lib.Ieee.{of_bits, of_int, neg}
use Rattle.constellation.proofs.level2.Goals as goal

pub returns-then-bit-eq0 : goal.returns-then-bit-eq0
unfolding of_bits of_int neg
returns-then-bit-eq0 c = rw c.if-bit-eq0.true

pub returns-else-bit-eq0 : goal.returns-else-bit-eq0
unfolding of_bits of_int neg
returns-else-bit-eq0 c = let one : c.args.bit ≡ 1 = omega arith in rw one
