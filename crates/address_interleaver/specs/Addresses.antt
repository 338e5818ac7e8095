-- The addresses of the payload's address interleavers (5.1.5.5.5 of source 000): orders of the numbers below n, each a function from a
-- place to the number that stands there. All count from 0. Assumes nothing.
use Rattle.std.specs.Prelude.{cond, ℕ, ◌+◌, ◌-◌, ◌*◌, ◌%◌, eqb}
use Rattle.interleaver.specs.Rows.{pass_row}

-- `circshift` of the listing: moved up by some places, the last ones coming first again
abbrev pub circshift : ℕ → ℕ → ℕ → ℕ
circshift n by p = (p + (n - by % n)) % n

-- written by rows of m and read by columns: column j is j, j + m and so on below n, which is pass j of reading rows with step m
abbrev pub columns : ℕ → ℕ → ℕ → ℕ
columns n m p = pass_row n m p

-- InterOutAddr: what interleaver K of n carriers takes to place p, by InterShiftStep
unfoldable pub out_addr : ℕ → ℕ → ℕ → ℕ → ℕ
out_addr n step K p = cond (eqb step 0) (circshift n K p) (columns n ((K + 1) * step) (circshift n (2 * K * step) p))
