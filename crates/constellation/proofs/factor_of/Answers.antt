-- `constellation::factor_of` meets its contract: each constant's bit pattern is the number of `factor_of`. Assumes nothing.
use native.Mathlib.Omega.{arith}
use borrow.Author.Tests.{eq-eqb, ne_eqb}
use lib.Ieee.{of_bits}
use Rattle.constellation.proofs.factor_of.Goals as goal

pub returns-in-0 : goal.returns-in-0
unfolding of_bits
returns-in-0 c = simp (eq-eqb _ _ c.in-0.is)

pub returns-in-1 : goal.returns-in-1
unfolding of_bits
returns-in-1 c = simp (ne_eqb c.args.modulation 0 (λ e. omega arith), eq-eqb _ _ c.in-1.is)

pub returns-in_default : goal.returns-in_default
unfolding of_bits
returns-in_default c = simp (ne_eqb c.args.modulation 0 (λ e. omega arith), ne_eqb c.args.modulation 1 (λ e. omega arith))
