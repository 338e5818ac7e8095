-- In every sound shape the source bits of the coded bits are a permutation. Assumes nothing.
use mathlib.Core.Path.{◌≡◌, refl, sym, ap, ap₂, ◌∙◌}
use mathlib.Core.Bool.{Bool, true, false, cond}
use Prim.Native.Nat.{ℕ, zero, suc, ◌+◌, ◌-◌, ◌*◌, ◌/◌, ◌%◌, ◌<◌, ◌≤◌}
use native.Mathlib.Nat.{mod-lt, div-add-mod', mul-add, div-lt_iff_lt-mul}
use native.Mathlib.Omega.{arith}
use lib.Dec.{ltb}
use lib.Arith.{digits_div, digits_mod, digits_lt}
use borrow.Author.Tests.{eqb-true, eqb-false}
use Rattle.std.proofs.lemmas.Bool.Decides.{nat_tests}
use Rattle.bits.specs.Permutations.{Permutes}
use Rattle.bits.proofs.BoolLaws.{test-cases}
use Rattle.bits.proofs.NumberLaws.{lt-cases}
use Rattle.interleaver_shape.specs.declared.Shape.{Shape}
use Rattle.interleaver.specs.Rows.{pass_row, moved_row, continuous_row}
use Rattle.interleaver_shape.specs.Loops.Bounds.{Sound}
use Rattle.interleaver_shape.specs.Shapes.{coded_of}
use Rattle.interleaver.specs.Loops.Moving.{Orderly}
use Rattle.interleaver.specs.Source.{data_row, parity_row, group_of, place_in, is_parity, data_place, nibble_bit, column, source_of}
use Rattle.interleaver.proofs.PassLaws.{pass-permutes, moved-permutes, continuous-permutes}

-- the places of a group with the lead's left out, and back
abbrev skip : ℕ → ℕ → ℕ
skip lead e = cond (ltb lead e) (e - 1) e

abbrev unskip : ℕ → ℕ → ℕ
unskip lead x = cond (ltb x lead) x (suc x)

skipped : (group lead e : ℕ) → lead ≤ group → e < group + 1 → (e ≡ lead → ⊥) → (skip lead e < group) × (unskip lead (skip lead e) ≡ e)
skipped group lead e hl he ne =
    lt-cases lead e
    (λ h.
    (grind (arith, nat_tests), grind (arith, nat_tests)))
    (λ h.
    (grind (arith, nat_tests), grind (arith, nat_tests)))

order-permutes : (T step offset : ℕ) (b : Bool) → zero < step → (b ≡ true → (inverse : ℕ) × (rounds : ℕ) × (step * inverse ≡ 1 + rounds * T))
    → Permutes T (λ p. cond b (continuous_row T step offset p) (moved_row T offset (pass_row T step p)))
order-permutes T step offset true pos ok = let (inverse, rounds, e) = ok refl in continuous-permutes T step inverse rounds offset e
order-permutes T step offset false pos ok = moved-permutes T step offset pos

pub column_apart : (n b c : ℕ) → b < 4 → c < 4 → column n b ≡ column n c → b ≡ c
column_apart n b c hb hc e = omega arith

whole_apart : (i j : ℕ) → i / 4 ≡ j / 4 → i % 4 ≡ j % 4 → i ≡ j
whole_apart i j n b = omega arith

-- the parity row in either order
pub row-continuous : (L : Shape) (p : ℕ) → L.continuous ≡ true → parity_row L p ≡ continuous_row L.parity L.step L.offset p
unfolding parity_row
row-continuous L p e = rw e

pub row_moved : (L : Shape) (p : ℕ) → L.continuous ≡ false → parity_row L p ≡ moved_row L.parity L.offset (pass_row L.parity L.step p)
unfolding parity_row
row_moved L p e = rw e

module _ (L : Shape) (S : Orderly L) where
  pub data-permutes : Permutes L.rows (data_row L)
  data-permutes = pass-permutes L.rows L.step S.step-pos

  -- ---- the joined stream

  pub group-lt : (n : ℕ) → n < L.rows + L.parity → group_of L n < L.parity
  group-lt n h = (div-lt_iff_lt-mul {k = L.group + 1} (omega arith)).1 (omega (arith, S.rows_are, mul-add L.parity L.group 1))

  pub place-lt : (n : ℕ) → place_in L n < L.group + 1
  place-lt n = mod-lt n (omega arith)

  apart-from-lead : (n : ℕ) → is_parity L n ≡ false
      → (skip L.lead (place_in L n) < L.group) × (unskip L.lead (skip L.lead (place_in L n)) ≡ place_in L n)
  apart-from-lead n e = skipped L.group L.lead (place_in L n) S.lead-le (place-lt n) (eqb-false (place_in L n) L.lead e)

  pub data-place-lt : (n : ℕ) → n < L.rows + L.parity → is_parity L n ≡ false → data_place L n < L.rows
  data-place-lt n h e = omega (arith, S.rows_are, digits_lt {c = L.group} (group-lt n h) (apart-from-lead n e).0)

  -- a nibble of data, by its place among them
  nibble-of : ℕ → ℕ
  nibble-of p = p / L.group * (L.group + 1) + unskip L.lead (p % L.group)

  data-back : (n : ℕ) → is_parity L n ≡ false → nibble-of (data_place L n) ≡ n
  unfolding nibble-of
  data-back n e =
      let (l, u) = apart-from-lead n e in
      ap₂ (λ (g x : ℕ). g * (L.group + 1) + unskip L.lead x) (digits_div (group_of L n) l) (digits_mod (group_of L n) l)
      ∙ ap (λ (x : ℕ). group_of L n * (L.group + 1) + x) u ∙ div-add-mod' n (L.group + 1)

  parity-back : (n : ℕ) → is_parity L n ≡ true → group_of L n * (L.group + 1) + L.lead ≡ n
  parity-back n e = omega (arith, eqb-true (place_in L n) L.lead e, div-add-mod' n (L.group + 1))

  -- ---- the columns

  pub bit-data : (n c : ℕ) → is_parity L n ≡ false → nibble_bit L n c ≡ c * L.rows + data_row L (data_place L n)
  unfolding nibble_bit
  bit-data n c e = rw e

  pub bit-parity : (n c : ℕ) → is_parity L n ≡ true → nibble_bit L n c ≡ L.rows * 4 + (c * L.parity + parity_row L (group_of L n))
  unfolding nibble_bit
  bit-parity n c e = rw e

  pub data-row-lt : (n : ℕ) → n < L.rows + L.parity → is_parity L n ≡ false → data_row L (data_place L n) < L.rows
  data-row-lt n h e = data-permutes.below (data_place L n) (data-place-lt n h e)

pub orderly : {L : Shape} → Sound L → Orderly L
orderly S = record { step-pos = S.step-pos; group-pos = S.group-pos; lead-le = S.lead-le; rows_are = S.rows_are }

module _ (L : Shape) (S : Sound L) where
  O : Orderly L
  O = orderly S

  pub parity-permutes : Permutes L.parity (parity_row L)
  unfolding parity_row
  parity-permutes = order-permutes L.parity L.step L.offset L.continuous S.step-pos S.continuous-ok

  module _ (n : ℕ) (h : n < L.rows + L.parity) where
    pub parity-row-lt : parity_row L (group_of L n) < L.parity
    parity-row-lt = parity-permutes.below (group_of L n) (group-lt L O n h)

    -- data bits come before parity bits
    data-bit-lt : (c : ℕ) → c < 4 → is_parity L n ≡ false → nibble_bit L n c < L.rows * 4
    data-bit-lt c hc e = omega (arith, bit-data L O n c e, digits_lt {m = 4} {c = L.rows} hc (data-row-lt L O n h e))

    parity-bit-le : (c : ℕ) → is_parity L n ≡ true → L.rows * 4 ≤ nibble_bit L n c
    parity-bit-le c e = omega (arith, bit-parity L O n c e)

    pub bit-lt : (c : ℕ) → c < 4 → nibble_bit L n c < coded_of L
    bit-lt c hc =
        test-cases (is_parity L n)
        (λ e. omega (arith, bit-parity L O n c e, digits_lt {m = 4} {c = L.parity} hc parity-row-lt))
        (λ e. omega (arith, data-bit-lt c hc e))

  module _ (n m c d : ℕ) (hn : n < L.rows + L.parity) (hm : m < L.rows + L.parity) (hc : c < 4) (hd : d < 4) where
    same-data : is_parity L n ≡ false → is_parity L m ≡ false → nibble_bit L n c ≡ nibble_bit L m d → (n ≡ m) × (c ≡ d)
    same-data p q e =
        let rn = data-row-lt L O n hn p in
        let rm = data-row-lt L O m hm q in
        let z : c * L.rows + data_row L (data_place L n) ≡ d * L.rows + data_row L (data_place L m) =
        sym (bit-data L O n c p) ∙ e ∙ bit-data L O m d q in
        let row : data_row L (data_place L n) ≡ data_row L (data_place L m) =
        sym (digits_mod c rn) ∙ ap (λ (x : ℕ). x % L.rows) z ∙ digits_mod d rm in
        let place : data_place L n ≡ data_place L m =
        (data-permutes L O).apart (data_place L n) (data_place L m) (data-place-lt L O n hn p) (data-place-lt L O m hm q) row in (
          sym (data-back L O n p) ∙ ap (nibble-of L O) place ∙ data-back L O m q,
          sym (digits_div c rn) ∙ ap (λ (x : ℕ). x / L.rows) z ∙ digits_div d rm,
        )

    same-parity : is_parity L n ≡ true → is_parity L m ≡ true → nibble_bit L n c ≡ nibble_bit L m d → (n ≡ m) × (c ≡ d)
    same-parity p q e =
        let rn = parity-row-lt n hn in
        let rm = parity-row-lt m hm in
        let z : c * L.parity + parity_row L (group_of L n) ≡ d * L.parity + parity_row L (group_of L m) =
        omega (arith, bit-parity L O n c p, bit-parity L O m d q) in
        let row : parity_row L (group_of L n) ≡ parity_row L (group_of L m) =
        sym (digits_mod c rn) ∙ ap (λ (x : ℕ). x % L.parity) z ∙ digits_mod d rm in
        let place : group_of L n ≡ group_of L m =
        parity-permutes.apart (group_of L n) (group_of L m) (group-lt L O n hn) (group-lt L O m hm) row in (
          sym (parity-back L O n p) ∙ ap (λ (g : ℕ). g * (L.group + 1) + L.lead) place ∙ parity-back L O m q,
          sym (digits_div c rn) ∙ ap (λ (x : ℕ). x / L.parity) z ∙ digits_div d rm,
        )

    bit-apart : nibble_bit L n c ≡ nibble_bit L m d → (n ≡ m) × (c ≡ d)
    bit-apart e = go (is_parity L n) (is_parity L m) refl refl
      where
        go : (a b : Bool) → is_parity L n ≡ a → is_parity L m ≡ b → (n ≡ m) × (c ≡ d)
        go false false p q = same-data p q e
        go true true p q = same-parity p q e
        go false true p q = absurd (omega (arith, data-bit-lt n hn c hc p, parity-bit-le m hm d q))
        go true false p q = absurd (omega (arith, data-bit-lt m hm d hd q, parity-bit-le n hn c p))

  -- each source bit is one coded bit
  pub source-permutes : Permutes (coded_of L) (source_of L)
  unfolding source_of
  source-permutes =
      record {
        below = λ i h. bit-lt (i / 4) (omega arith) (column (i / 4) (i % 4)) (omega arith);
        apart = λ i j hi hj e.
            let (n, c) =
            bit-apart (i / 4) (j / 4) (column (i / 4) (i % 4)) (column (j / 4) (j % 4)) (omega arith) (omega arith) (omega arith) (omega arith) e in
            let b = column_apart (i / 4) (i % 4) (j % 4) (omega arith) (omega arith) (c ∙ ap (λ (m : ℕ). column m (j % 4)) (sym n)) in
            whole_apart i j n b;
      }
