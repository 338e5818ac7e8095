-- `slicing::axis2` meets its contract: the tests of x and of -x lead to the reading. Assumes nothing.
use mathlib.Core.Path.{◌≡◌, sym, ◌∙◌, ap}
use mathlib.Core.Bool.{Bool}
use lib.Ieee.{Float, neg}
use Rattle.slicing.specs.Slicing.{level, lost, erasure_width}
use Rattle.slicing.proofs.DecisionLaws.{over, axis2-tests}
use Rattle.slicing.proofs.axis2.Goals as goal
use Rattle.slicing.proofs.axis2.Goals.{After-above, After-above-2}

-- a test that `above` made of the number that `erasure_width` gave is one of `erasure_width`
known : {w v : Float} {r t : Bool} (x : Float) → w ≡ v → r ≡ over w x → r ≡ t → over v x ≡ t
known x e f g = ap (λ (u : Float). over u x) (sym e) ∙ sym f ∙ g

first : (c : After-above) {t : Bool} → c.above.result ≡ t → over (erasure_width c.args.modulation) c.args.x ≡ t
first c g = known c.args.x c.erasure_width-width.ensures c.above.ensures g

second : (c : After-above-2) {t : Bool} → c.above-2.result ≡ t
    → over (erasure_width c.args.modulation) (neg c.args.x) ≡ t
second c g = known (neg c.args.x) c.erasure_width-width.ensures c.above-2.ensures g

pub returns-then-above : goal.returns-then-above
returns-then-above c =
    let a = c.args in
    axis2-tests a.modulation a.x (level 1) (simp (first (goal.at.returns-then-above c).After-above c.if-above.true))

pub returns-then-above-2 : goal.returns-then-above-2
returns-then-above-2 c =
    let a = c.args in
    axis2-tests a.modulation a.x (level 0) (simp (first (goal.at.returns-then-above-2 c).After-above c.if-above.false, second (goal.at.returns-then-above-2 c).After-above-2 c.if-above-2.true))

pub returns : goal.returns
returns c =
    let a = c.args in
    axis2-tests a.modulation a.x lost (simp (first (goal.at.returns c).After-above c.if-above.false, second (goal.at.returns c).After-above-2 c.if-above-2.false))
