-- `slicing::axis4` meets its contract: the tests of x and of -x lead to the reading. Assumes nothing.
use mathlib.Core.Path.{◌≡◌, sym, ◌∙◌}
use mathlib.Core.Bool.{Bool}
use lib.Ieee.{of_bits, mul, neg}
use Rattle.slicing.specs.Slicing.{erasure_width}
use Rattle.slicing.proofs.DecisionLaws.{over, axis4-positive, axis4-negative, axis4-lost}
use Rattle.slicing.proofs.axis4.Goals as goal
use Rattle.slicing.proofs.axis4.Goals.{After-above, After-above-2}

-- the test of x, and that of -x: the code's width is a bit pattern, which computes to `erasure_width`
first : (c : After-above) {t : Bool} → c.above.result ≡ t → over (erasure_width 2) c.args.x ≡ t
unfolding of_bits mul
first c g = sym c.above.ensures ∙ g

second : (c : After-above-2) {t : Bool} → c.above-2.result ≡ t → over (erasure_width 2) (neg c.args.x) ≡ t
unfolding of_bits mul
second c g = sym c.above-2.ensures ∙ g

pub returns-then-above : goal.returns-then-above
returns-then-above c =
    c.sized4.ensures ∙ axis4-positive c.args.x (first (goal.at.returns-then-above c).After-above c.if-above.true)

pub returns-then-above-2 : goal.returns-then-above-2
returns-then-above-2 c =
    c.sized4-then-above-2.ensures ∙ axis4-negative c.args.x (first (goal.at.returns-then-above-2 c).After-above c.if-above.false) (second (goal.at.returns-then-above-2 c).After-above-2 c.if-above-2.true)

pub returns : goal.returns
returns c =
    axis4-lost c.args.x (first (goal.at.returns c).After-above c.if-above.false) (second (goal.at.returns c).After-above-2 c.if-above-2.false)
