-- `columns::rows_by_words` meets its contract. The invariant: eight rows for each of the first i bytes are written. Assumes nothing.
use mathlib.Core.Path.{◌≡◌}
use Prim.Native.Nat.{◌*◌}
use Rattle.bits.specs.Lists.{written}
use Rattle.bits.specs.Bits.{bit_of}
use Rattle.columns.specs.Columns.{rowed}
use Rattle.columns.proofs.rows_by_words.Given as goal

abbrev pub invariant-loop-i : goal.invariant-loop-i
invariant-loop-i l = l.out ≡ written (32 * l.i) (rowed (8 * l.height) (bit_of l.bytes)) l.initial.out
