-- `constellation::level4` meets its contract: at each of the four pairs of bits the level of the table computes. Assumes nothing.
use mathlib.Core.Path.{◌≡◌}
use native.Mathlib.Omega.{arith}
use lib.Ieee.{of_bits, of_int, neg}
use Rattle.constellation.proofs.level4.Goals as goal

pub returns-then-first-eq0 : goal.returns-then-first-eq0
unfolding of_bits of_int neg
returns-then-first-eq0 c = rw (c.if-second-eq0.true, c.if-first-eq0.true)

pub returns-else-first-eq0 : goal.returns-else-first-eq0
unfolding of_bits of_int neg
returns-else-first-eq0 c = let first : c.args.first ≡ 1 = omega arith in rw (c.if-second-eq0.true, first)

pub returns-then-first-eq0-2 : goal.returns-then-first-eq0-2
unfolding of_bits of_int neg
returns-then-first-eq0-2 c = let second : c.args.second ≡ 1 = omega arith in rw (second, c.if-first-eq0-2.true)

pub returns-else-first-eq0-2 : goal.returns-else-first-eq0-2
unfolding of_bits of_int neg
returns-else-first-eq0-2 c =
    let first : c.args.first ≡ 1 = omega arith in
    let second : c.args.second ≡ 1 = omega arith in
    rw (first, second)
