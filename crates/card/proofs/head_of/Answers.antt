-- `card::head_of` meets its contract. Assumes nothing.
use mathlib.Core.Path.{ap}
use Prim.Native.Nat.{◌*◌}
use native.Mathlib.Omega.{arith}
use Rattle.bits.proofs.BitLaws.{field_lt}
use Rattle.card.specs.Loops.Heads.{head_of}
use borrow.Author.Tests.{eq-eqb, ne_eqb}
use Rattle.card.proofs.head_of.Goals as goal

pub returns-then-card-eq12 : goal.returns-then-card-eq12
unfolding head_of
returns-then-card-eq12 c = simp (eq-eqb _ _ c.if-card-eq12.true) c.number_at.ensures

pub overflow_mul-result : goal.overflow_mul-result
overflow_mul-result c = omega (arith, c.number_at-2.ensures, field_lt c.args.card.now 0 24)

pub returns : goal.returns
unfolding head_of
returns c = simp (ne_eqb _ _ c.if-card-eq12.false) (ap (λ x. x * 256) c.number_at-2.ensures)
