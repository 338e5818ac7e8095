-- `columns::take_rows` meets its contract. The invariant: each byte is packed from the first j rows. Assumes nothing.
use mathlib.Core.Path.{◌≡◌}
use Prim.Native.Nat.{ℕ, ◌<◌}
use Rattle.bits.specs.Bits.{pack}
use Rattle.bits.specs.Loops.Words.{word_byte}
use Rattle.columns.proofs.ColumnLaws.{column_bit}
use Rattle.columns.proofs.take_rows.Given as goal

abbrev pub invariant-loop-j : goal.invariant-loop-j
invariant-loop-j l = (l.word < 4294967296) × ((c : ℕ) → c < 4 → word_byte l.word c ≡ pack l.j (column_bit l.rows l.at c))
