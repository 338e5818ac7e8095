-- A block's source bits in the list of rows, which is how the code takes and gives them: four bits to a row, first the data rows and then the
-- parity rows. Assumes nothing.
use Rattle.std.specs.Prelude.{cond, ℕ, ◌+◌, ◌-◌, ◌*◌, ◌/◌, ◌%◌, ltb}
use Rattle.interleaver_shape.specs.declared.Shape.{Shape}
use Rattle.interleaver_shape.specs.Shapes.{shape_of}
use Rattle.interleaver.specs.Source.{data_row, parity_row, group_of, is_parity, data_place, column}

-- the row that nibble n is, where all are numbered on
unfoldable pub row_of : Shape → ℕ → ℕ
row_of L n = cond (is_parity L n) (L.rows + parity_row L (group_of L n)) (data_row L (data_place L n))

-- the place, in the list of rows, of coded bit i
unfoldable pub place_of : Shape → ℕ → ℕ
place_of L i = row_of L (i / 4) * 4 + column (i / 4) (i % 4)

-- the source bit at place j of the rows: the columns of data were filled one after the other, and so were those of parity
unfoldable pub source_at : Shape → ℕ → ℕ
source_at L j =
    cond (ltb j (L.rows * 4)) (j % 4 * L.rows + j / 4) (L.rows * 4 + ((j - L.rows * 4) % 4 * L.parity + (j - L.rows * 4) / 4))

-- the place of coded bit i, and the source bit at place j, at a kind and rate
unfoldable pub row_place : ℕ → ℕ → ℕ → ℕ
row_place kind rate i = place_of (shape_of kind rate) i

unfoldable pub row_source : ℕ → ℕ → ℕ → ℕ
row_source kind rate j = source_at (shape_of kind rate) j
