-- `slicing::above` meets its contract: the quotient 1.0 / 0.0 is the infinity. Assumes nothing.
use mathlib.Core.Path.{◌≡◌}
use mathlib.Core.Bool.{true, false}
use lib.Ieee.{of_bits, div, lt}
use Rattle.slicing.proofs.above.Goals as goal

pub returns-then-width-x : goal.returns-then-width-x
unfolding of_bits div
returns-then-width-x c =
    let over : lt c.args.width c.args.x ≡ true = c.if-width-x.true in
    rw over

pub returns-else-width-x : goal.returns-else-width-x
returns-else-width-x c =
    let over : lt c.args.width c.args.x ≡ false = c.if-width-x.false in
    rw over
