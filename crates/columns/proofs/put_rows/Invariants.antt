-- `columns::put_rows` meets its contract. The invariant: the first j rows are written. Assumes nothing.
use mathlib.Core.Path.{◌≡◌}
use Prim.Native.Nat.{◌-◌, ◌*◌, ◌/◌, ◌%◌}
use Rattle.bits.specs.Lists.{written}
use Rattle.bits.specs.Bits.{bit_at}
use Rattle.bits.specs.Loops.Words.{word_byte}
use Rattle.columns.proofs.put_rows.Given as goal

abbrev pub invariant-loop-j : goal.invariant-loop-j
invariant-loop-j l = l.out ≡ written (4 * l.j) (λ k. bit_at (7 - k / 4) (word_byte l.word (k % 4))) l.initial.out
