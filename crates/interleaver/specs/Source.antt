-- Which source bit each coded bit is (5.1.5.4 of source 000, "Shuffling before the carriers" of paper 01). Source bits are the data bits and
-- then the kept parity bits; coded bits are numbered as they leave the interleaver. A nibble is the four bits of one row.
-- Assumes nothing.
use Rattle.std.specs.Prelude.{Bool, cond, ℕ, ◌+◌, ◌-◌, ◌*◌, ◌/◌, ◌%◌, ltb, eqb}
use Rattle.bits.specs.Lists.{lowest}
use Rattle.interleaver_shape.specs.declared.Shape.{Shape}
use Rattle.interleaver.specs.Rows.{pass_row, moved_row, continuous_row}
use Rattle.interleaver_shape.specs.Shapes.{shape_of, coded_bits}

-- 5.1.5.4.2: the data row that the p-th data nibble is
abbrev pub data_row : Shape → ℕ → ℕ
data_row L p = pass_row L.rows L.step p

-- 5.1.5.4.3: the parity row that the p-th parity nibble is
unfoldable pub parity_row : Shape → ℕ → ℕ
parity_row L p =
    cond L.continuous (continuous_row L.parity L.step L.offset p) (moved_row L.parity L.offset (pass_row L.parity L.step p))

-- 5.1.5.4.4: the joined stream is groups of data nibbles with one parity nibble after the first `lead` of them.
-- The group of nibble n, its place in the group, and whether it is the parity nibble.
abbrev pub group_of : Shape → ℕ → ℕ
group_of L n = n / (L.group + 1)

abbrev pub place_in : Shape → ℕ → ℕ
place_in L n = n % (L.group + 1)

abbrev pub is_parity : Shape → ℕ → Bool
is_parity L n = eqb (place_in L n) L.lead

-- how many data nibbles come before nibble n
abbrev pub data_place : Shape → ℕ → ℕ
data_place L n = group_of L n * L.group + cond (ltb L.lead (place_in L n)) (place_in L n - 1) (place_in L n)

-- the source bit in column c of nibble n: four columns of data, and then four of parity, filled column by column
unfoldable pub nibble_bit : Shape → ℕ → ℕ → ℕ
nibble_bit L n c =
    cond (is_parity L n) (L.rows * 4 + (c * L.parity + parity_row L (group_of L n))) (c * L.rows + data_row L (data_place L n))

-- 5.1.5.4.5: nibble n of the joined stream is rotated right (n div 2) mod 4 places, so its b-th bit is of this column
abbrev pub column : ℕ → ℕ → ℕ
column n b = (b + (4 - n / 2 % 4)) % 4

-- the source bit that coded bit i of a shape is
unfoldable pub source_of : Shape → ℕ → ℕ
source_of L i = nibble_bit L (i / 4) (column (i / 4) (i % 4))

-- the source bit that coded bit i is, and the coded bit that source bit k is
unfoldable pub source : ℕ → ℕ → ℕ → ℕ
source kind rate i = source_of (shape_of kind rate) i

unfoldable pub coded_at : ℕ → ℕ → ℕ → ℕ
coded_at kind rate k = lowest (coded_bits kind rate) (λ i. eqb (source kind rate i) k)
