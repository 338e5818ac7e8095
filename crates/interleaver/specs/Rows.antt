-- The orders in which rows are read (5.1.5.4.2 and 5.1.5.4.3 of source 000). Rows, passes and places in an order count from 0.
-- Assumes nothing.
use Rattle.std.specs.Prelude.{List, [], ◌++◌, ℕ, zero, suc, ◌+◌, ◌*◌, ◌%◌, leb, get_or}
use Rattle.bits.specs.Lists.{tabulate, lowest}

-- how many rows pass j takes of R: up to the first of j, j + step, j + 2 step and so on that is not below R
unfoldable pub pass_length : ℕ → ℕ → ℕ → ℕ
pass_length R step j = lowest R (λ k. leb R (j + k * step))

-- the rows that pass j takes: j, j + step and so on below R
unfoldable pub pass : ℕ → ℕ → ℕ → List ℕ
pass R step j = tabulate (pass_length R step j) (λ k. j + k * step)

-- the rows that passes 0 to n - 1 take, one pass after the other
unfoldable pub passes : ℕ → ℕ → ℕ → List ℕ
passes R step zero = []
passes R step (suc j) = passes R step j ++ pass R step j

-- the row at place p of all passes
unfoldable pub pass_row : ℕ → ℕ → ℕ → ℕ
pass_row R step p = get_or (passes R step step) p 0

-- a row moved up by the offset, modulo the number of rows
abbrev pub moved_row : ℕ → ℕ → ℕ → ℕ
moved_row R offset row = (row + offset) % R

-- the row at place p where reading starts at the offset and goes on by the step without a restart, modulo the number of rows
abbrev pub continuous_row : ℕ → ℕ → ℕ → ℕ → ℕ
continuous_row R step offset p = (offset + p * step) % R
