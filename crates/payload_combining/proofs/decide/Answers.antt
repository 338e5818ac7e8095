-- `payload_combining::decide` meets its contract. Assumes nothing.
use native.Mathlib.Omega.{arith}
use Rattle.payload_combining.proofs.decide.Goals as goal

-- a layout that has not one copy has more
pub decide_copies-requires : goal.decide_copies-requires
decide_copies-requires c =
    (record { laid = c.requires.0; more = omega (arith, c.requires.0.sound.copies-pos) }, c.requires.1, omega (arith, c.requires.2))
