-- `slicing::received_of` meets its contract. Assumes nothing.
use borrow.Author.Tests.{eq-eqb, ne_eqb}
use Rattle.slicing.proofs.received_of.Goals as goal

pub returns-then-heard-eq0 : goal.returns-then-heard-eq0
returns-then-heard-eq0 c = simp (eq-eqb _ _ c.if-heard-eq0.true)

pub returns-else-heard-eq0 : goal.returns-else-heard-eq0
returns-else-heard-eq0 c = simp (ne_eqb _ _ c.if-heard-eq0.false)
