-- `constituent::Encoder::walk` meets its contract. The invariant: a and b are eight times the states after the pairs so far. Assumes nothing.
use mathlib.Core.Path.{◌≡◌}
use Prim.Native.Nat.{◌*◌, ◌<◌}
use lib.ListN.{length}
use Rattle.constituent.specs.Loops.Passes.{state_by}
use Rattle.constituent.proofs.Encoder.walk.Given as goal

abbrev pub invariant-loop-x : goal.invariant-loop-x
invariant-loop-x l =
    (l.a < 64)
    × (l.b < 64)
    × (l.a ≡ state_by l.self.taps l.bytes 0 (4 * length l.yielded) * 8)
    × (l.b ≡ state_by l.self.taps l.second 0 (4 * length l.yielded) * 8)
