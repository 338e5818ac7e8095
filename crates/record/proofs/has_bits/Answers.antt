-- `record::has_bits` meets its contract: a float that is no NaN equals itself. Assumes nothing.
use Rattle.std.proofs.Common.{◌≡◌, refl, sym, ◌∙◌, Bool, true, false, ◌*◌}
use mathlib.Core.Bool.{false≢true}
use lib.Ieee.{Float, nan, inf, fin, up, down, is_nan, eq}
use borrow.Author.Tests.{eq-eqb}
use Rattle.std.specs.Bool.{beq}
use Rattle.record.proofs.has_bits.Goals as goal

-- a sign equals itself, and so does a float that is no NaN
alike : (s : Bool) → beq s s ≡ true
alike true = refl
alike false = refl

equals_itself : (x : Float) → is_nan x ≡ false → eq x x ≡ true
unfolding is_nan eq
equals_itself nan e = absurd (false≢true (sym e))
equals_itself (inf s) e = alike s
equals_itself (fin s m e) h = simp (eq-eqb (m * up e * down e) (m * up e * down e) refl, alike s)

pub returns-then-not-is_nan : goal.returns-then-not-is_nan
returns-then-not-is_nan c = simp (equals_itself c.args.x (sym c.is_nan.ensures.value ∙ c.if-not-is_nan.true))
