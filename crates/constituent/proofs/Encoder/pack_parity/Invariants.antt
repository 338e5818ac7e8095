-- `constituent::Encoder::pack_parity` meets its contract. The invariant: a and b are eight times the states of pass two after i bytes, and the
-- parity bits of those bytes are written. Assumes nothing.
use mathlib.Core.Path.{◌≡◌}
use Prim.Native.Nat.{◌*◌, ◌<◌}
use Rattle.bits.specs.Bits.{bit_of, byte_of}
use Rattle.bits.specs.Lists.{written}
use Rattle.constituent.specs.Encoder.{ring_start}
use Rattle.constituent.specs.Pairs.{pair_at}
use Rattle.constituent.specs.Loops.Passes.{state_by, multiplexed}
use Rattle.constituent.proofs.Encoder.pack_parity.Given as goal

abbrev pub invariant-loop-i : goal.invariant-loop-i
invariant-loop-i l =
    (l.a < 64)
    × (l.b < 64)
    × (l.a ≡ state_by l.self.taps l.bytes (ring_start l.kind l.self.taps (pair_at (bit_of l.bytes))) (4 * l.i) * 8)
    × (l.b ≡ state_by l.self.taps l.second (ring_start l.kind l.self.taps (pair_at (bit_of l.second))) (4 * l.i) * 8)
    × (l.out ≡ written l.i (byte_of (multiplexed l.kind l.self.taps (pair_at (bit_of l.bytes)) (pair_at (bit_of l.second)))) l.initial.out)
