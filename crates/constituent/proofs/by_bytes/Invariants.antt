-- `constituent::by_bytes` meets its contract. The invariant: the entries of the bytes below 2 to the power `bit` are right. Assumes nothing.
use mathlib.Core.Path.{◌≡◌}
use Prim.Native.Nat.{ℕ, ◌^◌, ◌<◌}
use lib.ListN.{get_or}
use Rattle.constituent.specs.Loops.Bytes.{byte_word}
use Rattle.constituent.proofs.by_bytes.Given as goal

abbrev pub invariant-loop-bit : goal.invariant-loop-bit
invariant-loop-bit l = (b : ℕ) → b < 2 ^ l.bit → get_or l.table b 0 ≡ byte_word l.taps 0 b
