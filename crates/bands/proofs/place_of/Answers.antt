-- `bands::place_of` meets its contract: each return has the tests that led there. Assumes nothing.
use Rattle.std.proofs.Common.{sym, arith}
use borrow.Author.Tests.{le-leb, lt-leb, lt-ltb, le-ltb}
use Rattle.bands.specs.Units.{place_of}
use Rattle.bands.proofs.UnitLaws.{place-placed}
use Rattle.bands.proofs.place_of.Goals as goal

pub returns-in_default : goal.returns-in_default
unfolding place_of
returns-in_default c = simp (le-leb _ _ c.in_default.ensures)

pub returns-then-number-first : goal.returns-then-number-first
unfolding place_of
returns-then-number-first c = rw (← c.in-Some.ensures) (simp (lt-leb _ _ c.in-Some.band.defined, ← c.first-first.ensures, lt-ltb _ _ c.if-number-first.true))

pub returns-then-last-number : goal.returns-then-last-number
unfolding place_of
returns-then-last-number c =
    rw (← c.in-Some.ensures)
    (simp (
      lt-leb _ _ c.in-Some.band.defined,
      ← c.first-first.ensures,
      le-ltb _ _ c.if-number-first.false,
      ← c.last.ensures,
      lt-ltb _ _ c.if-last-number.true,
    ))

pub returns : goal.returns
returns c =
    rw (← c.in-Some.ensures)
    (sym (place-placed _ _ _ (record { defined = c.in-Some.band.defined; from = omega arith; to = omega arith; place = omega arith })))
