-- A block's source bits row by row: in every sound shape the places of the coded bits are a permutation, and each holds its source bit.
-- Assumes nothing.
use mathlib.Core.Path.{◌≡◌, sym, ap, ap₂, ◌∙◌}
use mathlib.Core.Bool.{true, false}
use Prim.Native.Nat.{ℕ, ◌+◌, ◌-◌, ◌*◌, ◌/◌, ◌%◌, ◌<◌}
use native.Mathlib.Omega.{arith}
use lib.Arith.{digits_div, digits_mod}
use Rattle.std.proofs.lemmas.Bool.Decides.{nat_tests}
use Rattle.bits.specs.Permutations.{Permutes}
use Rattle.bits.proofs.BoolLaws.{test-cases}
use Rattle.interleaver_shape.specs.declared.Shape.{Shape}
use Rattle.interleaver_shape.specs.Loops.Bounds.{Sound}
use Rattle.interleaver_shape.specs.Shapes.{coded_of}
use Rattle.interleaver.specs.Source.{data_row, parity_row, group_of, is_parity, data_place, nibble_bit, column, source_of}
use Rattle.interleaver.specs.Loops.RowOrder.{row_of, place_of, source_at}
use Rattle.interleaver.proofs.SourceLaws.{orderly, data-row-lt, parity-row-lt, bit-data, bit-parity, source-permutes}

-- the places of the coded bits of nibble n
pub place-nibble : (L : Shape) (n b : ℕ) → b < 4 → place_of L (n * 4 + b) ≡ row_of L n * 4 + column n b
unfolding place_of
place-nibble L n b h = ap₂ (λ (m k : ℕ). row_of L m * 4 + column m k) (digits_div n h) (digits_mod n h)

-- the row of a nibble of data, and of one of parity
pub row-data : (L : Shape) (n : ℕ) → is_parity L n ≡ false → row_of L n ≡ data_row L (data_place L n)
unfolding row_of
row-data L n e = grind arith

pub row-parity : (L : Shape) (n : ℕ) → is_parity L n ≡ true → row_of L n ≡ L.rows + parity_row L (group_of L n)
unfolding row_of
row-parity L n e = rw e

-- place j of rows whose columns were filled one after the other: its number among their bits
pub filled-lt : (j height : ℕ) → j < height * 4 → j % 4 * height + j / 4 < height * 4
filled-lt j height h = grind arith

-- the source bit in column c of a data row, and of a parity row
at-data : (L : Shape) (r c : ℕ) → c < 4 → r < L.rows → source_at L (r * 4 + c) ≡ c * L.rows + r
unfolding source_at
at-data L r c hc h = grind (arith, nat_tests)

at-parity : (L : Shape) (r c : ℕ) → c < 4 → source_at L ((L.rows + r) * 4 + c) ≡ L.rows * 4 + (c * L.parity + r)
unfolding source_at
at-parity L r c hc = grind (arith, nat_tests)

module _ (L : Shape) (S : Sound L) where
  row_lt : (n : ℕ) → n < L.rows + L.parity → row_of L n < L.rows + L.parity
  row_lt n h =
      test-cases (is_parity L n)
      (λ t. omega (arith, row-parity L n t, parity-row-lt L S n h))
      (λ t. omega (arith, row-data L n t, data-row-lt L (orderly S) n h t))

  -- each place of a nibble's row holds the source bit of its column
  at-nibble : (n c : ℕ) → n < L.rows + L.parity → c < 4 → source_at L (row_of L n * 4 + c) ≡ nibble_bit L n c
  at-nibble n c h hc =
      test-cases (is_parity L n)
      (λ t.
      ap (λ (r : ℕ). source_at L (r * 4 + c)) (row-parity L n t) ∙ at-parity L (parity_row L (group_of L n)) c hc ∙ sym (bit-parity L (orderly S) n c t))
      (λ t.
      ap (λ (r : ℕ). source_at L (r * 4 + c)) (row-data L n t) ∙ at-data L (data_row L (data_place L n)) c hc (data-row-lt L (orderly S) n h t)
      ∙ sym (bit-data L (orderly S) n c t))

  pub source-at-place : (i : ℕ) → i < coded_of L → source_at L (place_of L i) ≡ source_of L i
  unfolding place_of source_of
  source-at-place i h = at-nibble (i / 4) (column (i / 4) (i % 4)) (omega arith) (omega arith)

  pub source-at-lt : (j : ℕ) → j < coded_of L → source_at L j < coded_of L
  unfolding source_at
  source-at-lt j h =
      grind (arith, nat_tests, filled-lt j L.rows, filled-lt (j - L.rows * 4) L.parity)

  -- each place is that of one coded bit
  pub place-permutes : Permutes (coded_of L) (place_of L)
  unfolding place_of
  place-permutes =
      record {
        below = λ i h. omega (arith, row_lt (i / 4) (omega arith));
        apart = λ i j hi hj e.
            (source-permutes L S).apart i j hi hj (sym (source-at-place i hi) ∙ ap (source_at L) e ∙ source-at-place j hj);
      }
