-- `record::is_nan` meets its contract. Assumes nothing.
use lib.Ieee.{nan_bits}
use borrow.Author.Tests.{eq-eqb, ne_eqb}
use Rattle.record.proofs.is_nan.Goals as goal

pub returns-then-bits-eq2047 : goal.returns-then-bits-eq2047
unfolding nan_bits
returns-then-bits-eq2047 c = simp (eq-eqb _ _ c.if-bits-eq2047.true)

pub returns-else-bits-eq2047 : goal.returns-else-bits-eq2047
unfolding nan_bits
returns-else-bits-eq2047 c = simp (ne_eqb _ _ c.if-bits-eq2047.false)
