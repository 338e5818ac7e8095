-- `slicing::sized4` meets its contract: the code's two constants are bit patterns, which compute to the ends of what is lost. Assumes nothing.
use mathlib.Core.Path.{◌≡◌}
use mathlib.Core.Bool.{true, false}
use lib.Ieee.{of_bits, add, sub, mul, lt, le}
use Rattle.slicing.specs.Slicing.{lower, upper}
use Rattle.slicing.proofs.sized4.Goals as goal

pub returns-then-size : goal.returns-then-size
unfolding of_bits add sub mul
returns-then-size c =
    let low : lt c.args.size lower ≡ true = c.if-size.true in
    simp low

pub returns-then-size-2 : goal.returns-then-size-2
unfolding of_bits add sub mul
returns-then-size-2 c =
    let size = c.args.size in
    let low : lt size lower ≡ false = c.if-size.false in
    let high : le size upper ≡ true = c.if-size-2.true in
    simp (low, high)

pub returns : goal.returns
unfolding of_bits add sub mul
returns c =
    let size = c.args.size in
    let low : lt size lower ≡ false = c.if-size.false in
    let high : le size upper ≡ false = c.if-size-2.false in
    simp (low, high)
