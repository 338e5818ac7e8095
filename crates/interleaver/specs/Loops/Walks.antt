-- Where a pass stands, where the joined stream does, and where a run of pairs does. Only loops cite it. Assumes nothing.
use Rattle.std.specs.Prelude.{◌≡◌, cond, ℕ, ◌+◌, ◌-◌, ◌*◌, ◌/◌, ◌%◌, ◌<◌, ◌≤◌, ltb, length}
use Rattle.interleaver_shape.specs.declared.Shape.{Shape}
use Rattle.interleaver.specs.declared.Stand.{Stand}
use Rattle.interleaver.specs.declared.Run.{Run}
use Rattle.interleaver.specs.Rows.{passes, continuous_row}
use Rattle.interleaver.specs.Source.{group_of, place_in}

-- Place p of the passes is at this row, which may be the first past the end: the row / step th of pass row % step.
pub record OnPass (R step p row : ℕ) : Type 0 where
  pub place_is : p ≡ length (passes R step (row % step)) + row / step
  pub row_near : row < R + step

-- how many parity nibbles come before nibble n, and how many data nibbles come from it on before the next parity nibble
unfoldable pub parity_place : Shape → ℕ → ℕ
parity_place L n = group_of L n + cond (ltb L.lead (place_in L n)) 1 0

unfoldable pub until_parity : Shape → ℕ → ℕ
until_parity L n = cond (ltb L.lead (place_in L n)) (L.lead + (L.group + 1) - place_in L n) (L.lead - place_in L n)

-- The joined stream stands here.
pub record Stands (L : Shape) (s : Stand) : Type 0 where
  pub within : s.nibble ≤ L.rows + L.parity
  pub left_is : s.left ≡ until_parity L s.nibble
  pub row_is : s.row ≡ continuous_row L.parity L.step L.offset (parity_place L s.nibble)

-- A run of pairs stands here.
pub record Runs (L : Shape) (s : Run) : Type 0 where
  pub place : ℕ
  pub nibble-is : s.nibble ≡ place * 2
  pub on-pass : OnPass L.rows L.step place s.row
