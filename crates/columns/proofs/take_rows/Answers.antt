-- `columns::take_rows` meets its contract. The invariant: each byte is packed from the first j rows. Assumes nothing.
use mathlib.Core.Path.{◌≡◌, ◌∙◌}
use Prim.Native.Nat.{ℕ, ◌+◌, ◌*◌, ◌<◌}
use native.Mathlib.Omega.{arith}
use Rattle.bits.specs.Bits.{pack}
use Rattle.bits.specs.Loops.Words.{word_byte}
use Rattle.columns.proofs.ColumnLaws.{column_bit, no_rows, rows-lt, next-rows-lt, next-rows, rotated-twice}
use Rattle.columns.proofs.take_rows.Goals as goal
use Rattle.columns.proofs.take_rows.Goals.{After-gather}

-- the word after a turn
turn : (c : After-gather)
    → let l = c.loop-j in
    (c.rotate_left.result + c.gather.result < 4294967296)
    × ((k : ℕ) → k < 4 → word_byte (c.rotate_left.result + c.gather.result) k ≡ pack (l.j + 1) (column_bit c.args.rows.now c.args.at k))
turn c =
    let l = c.loop-j in
    let rows = c.args.rows.now in
    let lt : l.j < 8 = omega arith in
    let word_lt : l.word < 4294967296 = omega arith in
    let row_lt : c.gather.result < 4294967296 = omega arith in
    let twice : c.rotate_left.result ≡ 2 * l.word =
    c.rotate_left.ensures ∙ rotated-twice l.word (rows-lt rows c.args.at l.j l.word c.requires.1 lt word_lt l.invariant.1) in (
      next-rows-lt rows c.args.at l.j l.word c.requires.1 lt word_lt l.invariant.1 _ _ twice row_lt c.gather.ensures,
      next-rows rows c.args.at l.j l.word c.requires.1 lt word_lt l.invariant.1 _ _ twice row_lt c.gather.ensures,
    )

pub loop-j-init : goal.loop-j-init
loop-j-init c = (omega arith, no_rows c.args.rows.now c.args.at)

pub overflow_add-word : goal.overflow_add-word
overflow_add-word c = omega (arith, (turn c).0)

pub loop-j-preserved : goal.loop-j-preserved
loop-j-preserved c = turn c
