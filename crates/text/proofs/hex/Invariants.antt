-- `text::hex` meets its contract. The invariant: the digits of the first k bytes are written. Assumes nothing.
use mathlib.Core.Path.{◌≡◌}
use Prim.Native.Nat.{◌*◌}
use Rattle.bits.specs.Lists.{written}
use Rattle.text.specs.Text.{hex_at}
use Rattle.text.proofs.hex.Given as goal

abbrev pub invariant-loop-k : goal.invariant-loop-k
invariant-loop-k l = l.out ≡ written (2 * l.k) (hex_at l.bytes) l.initial.out
