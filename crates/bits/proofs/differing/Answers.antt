-- `bits::differing` meets its contract. Assumes nothing.
use native.Mathlib.Omega.{arith}
use lib.Bits.{xor_lt}
use lib.Count.{ones-le}
use Rattle.bits.proofs.DifferLaws.{differing-bits}
use Rattle.bits.proofs.differing.Goals as goal

pub overflow_cast-result : goal.overflow_cast-result
overflow_cast-result c = omega (arith, ones-le 8 _ (xor_lt 8 c.args.x c.args.y (omega arith) (omega arith)))

pub returns : goal.returns
returns c = differing-bits c.args.x c.args.y (omega arith) (omega arith)
