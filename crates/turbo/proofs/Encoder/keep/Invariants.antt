-- `turbo::Encoder::keep` meets its contract. The invariant: the first i bytes are written. Assumes nothing.
use mathlib.Core.Path.{◌≡◌}
use Rattle.bits.specs.Bits.{bit_of, byte_of}
use Rattle.bits.specs.Lists.{written}
use Rattle.turbo.specs.Loops.Keeping.{punctured}
use Rattle.turbo.proofs.Encoder.keep.Given as goal

abbrev pub invariant-loop-i : goal.invariant-loop-i
invariant-loop-i l = l.byte-items ≡ written l.i (byte_of (punctured l.fn.self.kind l.fn.self.rate (bit_of l.packed))) l.initial.byte-items
