-- `bands::sub_carrier_of` meets its contract: each return has the tests that led there. Assumes nothing.
use Rattle.std.proofs.Common.{arith}
use borrow.Author.Tests.{le-leb, lt-leb}
use Rattle.bands.specs.Units.{sub_carrier_of}
use Rattle.bands.proofs.BandLaws.{carriers-between, last-below}
use Rattle.bands.proofs.sub_carrier_of.Goals as goal

pub returns-in_default : goal.returns-in_default
unfolding sub_carrier_of
returns-in_default c = simp (le-leb _ _ c.in_default.ensures)

pub returns-then-carriers-number : goal.returns-then-carriers-number
unfolding sub_carrier_of
returns-then-carriers-number c =
    rw (← c.in-Some.ensures) (simp (lt-leb _ _ c.in-Some.band.defined, ← c.carriers.ensures, le-leb _ _ c.if-carriers-number.true))

pub overflow_add-result : goal.overflow_add-result
overflow_add-result c =
    let defined = c.in-Some.band.defined in
    omega (arith, carriers-between _ defined, last-below _ defined)

pub returns : goal.returns
unfolding sub_carrier_of
returns c =
    rw (← c.in-Some.ensures)
    (simp (lt-leb _ _ c.in-Some.band.defined, ← c.carriers.ensures, lt-leb _ _ c.if-carriers-number.false, ← c.first.ensures))
