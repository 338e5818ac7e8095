-- From rows to columns: the word of eight rows, and elements stored at their places in the columns. Assumes nothing.
use mathlib.Core.Path.{◌≡◌, refl, sym, ap, ◌∙◌}
use mathlib.Core.List.{List}
use Prim.Native.Nat.{ℕ, ◌+◌, ◌*◌, ◌/◌, ◌%◌, ◌≤◌, ◌<◌}
use native.Mathlib.Nat.{mod-lt, div-lt_iff_lt-mul}
use native.Mathlib.Omega.{arith}
use lib.Arith.{digits_div, digits_mod}
use lib.Bits.{bit_or, or_zero_r}
use lib.ListN.{length, get_or}
use lib.Pow.{pow_mono}
use Rattle.bits.specs.Lists.{written}
use Rattle.bits.specs.Bits.{pack, byte_of}
use Rattle.bits.specs.Permutations.{Permutes}
use Rattle.bits.proofs.ListLaws.{written-ext}
use Rattle.bits.proofs.BitLaws.{pack-next, pack-ext, pack-lt}
use Rattle.bits.proofs.PermutationLaws.{undone, after-inverse}
use Rattle.bits.specs.Loops.Words.{word_byte, stored}
use Rattle.bits.proofs.StoreLaws.{stored-append, stored-ext, stored-permuted}
use Rattle.bits.proofs.NumberLaws.{below-four}
use Rattle.bits.proofs.WordLaws.{joined, joined-byte, whole}
use Rattle.columns.specs.Columns.{unrowed}
use Rattle.columns.proofs.RowLaws.{place, place-lt}

-- ---- the word of eight rows

pub rotated-twice : (x : ℕ) → x < 2147483648 → bit_or (x * 2 % 4294967296) (x / 2147483648) ≡ 2 * x
rotated-twice x h =
    let a : x * 2 % 4294967296 ≡ 2 * x = omega arith in
    let b : x / 2147483648 ≡ 0 = omega arith in
    rw (a, b) (or_zero_r (2 * x))

-- a word by bytes that are given
given-whole : (x : ℕ) (p : ℕ → ℕ) → x < 4294967296 → ((c : ℕ) → c < 4 → word_byte x c ≡ p c) → x ≡ joined (p 0) (p 1) (p 2) (p 3)
given-whole x p h e = whole x h ∙ rw (e 0 (omega arith), e 1 (omega arith), e 2 (omega arith), e 3 (omega arith))

-- bit t of column c of the rows from `at` on
abbrev pub column_bit : List ℕ → ℕ → ℕ → ℕ → ℕ
column_bit rows at c t = get_or rows (at + 4 * t + c) 0

-- no rows yet
pub no_rows : (rows : List ℕ) (at c : ℕ) → c < 4 → word_byte 0 c ≡ pack 0 (column_bit rows at c)
unfolding word_byte pack
no_rows rows at = below-four (λ c. word_byte 0 c ≡ pack 0 (column_bit rows at c)) refl refl refl refl

-- a word whose bytes are packed from j rows, and one row more
module _ (rows : List ℕ) (at j x : ℕ) (binary : (k : ℕ) → k < 32 → get_or rows (at + k) 0 < 2) (hj : j < 8) (hx : x < 4294967296)
    (packed : (c : ℕ) → c < 4 → word_byte x c ≡ pack j (column_bit rows at c)) where
  bit-lt : (c t : ℕ) → c < 4 → t < 8 → column_bit rows at c t < 2
  bit-lt c t hc ht = let e : at + (4 * t + c) ≡ at + 4 * t + c = omega arith in rw e at (binary (4 * t + c) (omega arith))

  byte-lt : (c : ℕ) → c < 4 → pack j (column_bit rows at c) < 128
  byte-lt c hc =
      omega (arith, pack-lt j (column_bit rows at c) (λ t h. bit-lt c t hc (omega arith)), pow_mono {i = j} {j = 7} (omega arith))

  x-whole : x ≡ joined (pack j (column_bit rows at 0)) (pack j (column_bit rows at 1)) (pack j (column_bit rows at 2)) (pack j (column_bit rows at 3))
  x-whole = given-whole x (λ c. pack j (column_bit rows at c)) hx packed

  pub rows-lt : x < 2147483648
  rows-lt = omega (arith, x-whole, byte-lt 0 (omega arith), byte-lt 1 (omega arith), byte-lt 2 (omega arith), byte-lt 3 (omega arith))

  next-lt : (c : ℕ) → c < 4 → pack (j + 1) (column_bit rows at c) < 256
  next-lt c h = omega (arith, pack-next j (column_bit rows at c), byte-lt c h, bit-lt c j h hj)

  module _ (twice g : ℕ) (ht : twice ≡ 2 * x) (hg : g < 4294967296) (row : (c : ℕ) → c < 4 → word_byte g c ≡ get_or rows (c * 1 + (at + 4 * j)) 0) where
    g-whole : g ≡ joined (column_bit rows at 0 j) (column_bit rows at 1 j) (column_bit rows at 2 j) (column_bit rows at 3 j)
    g-whole =
        given-whole g (λ c. column_bit rows at c j) hg (λ c h.
        let e : c * 1 + (at + 4 * j) ≡ at + 4 * j + c = omega arith in
        row c h ∙ ap (λ (i : ℕ). get_or rows i 0) e)

    next-whole : twice + g
        ≡ joined (pack (j + 1) (column_bit rows at 0)) (pack (j + 1) (column_bit rows at 1)) (pack (j + 1) (column_bit rows at 2)) (pack (j + 1) (column_bit rows at 3))
    next-whole =
        omega (
          arith,
          x-whole,
          g-whole,
          pack-next j (column_bit rows at 0),
          pack-next j (column_bit rows at 1),
          pack-next j (column_bit rows at 2),
          pack-next j (column_bit rows at 3),
        )

    pub next-rows-lt : twice + g < 4294967296
    next-rows-lt = omega (arith, next-whole, next-lt 0 (omega arith), next-lt 1 (omega arith), next-lt 2 (omega arith), next-lt 3 (omega arith))

    pub next-rows : (c : ℕ) → c < 4 → word_byte (twice + g) c ≡ pack (j + 1) (column_bit rows at c)
    next-rows c h =
        ap (λ (w : ℕ). word_byte w c) next-whole
        ∙ joined-byte (λ k. pack (j + 1) (column_bit rows at k)) _ _ _ _ (next-lt 0 (omega arith)) (next-lt 1 (omega arith)) (next-lt 2 (omega arith))
        (next-lt 3 (omega arith)) refl refl refl refl c h

-- ---- elements stored at their places

place-permutes : (n : ℕ) → Permutes (4 * n) (place n)
place-permutes n =
    undone (place n) (λ y. y % n * 4 + y / n) (place-lt n) (λ x h.
    let r : x / 4 < n = omega arith in
    rw (digits_div (x % 4) r, digits_mod (x % 4) r) (omega arith))

-- a loop's turn: the four elements of row i
pub column-next : (n i w : ℕ) (f : ℕ → ℕ) (out now : List ℕ) → now ≡ stored (4 * i) (place n) (λ k. f (place n k)) out
    → ((c : ℕ) → c < 4 → word_byte w c ≡ f (c * n + i))
    → stored 4 (λ c. c * n + i) (word_byte w) now ≡ stored (4 * (i + 1)) (place n) (λ k. f (place n k)) out
column-next n i w f out now e same =
    let q : 4 * i + 4 ≡ 4 * (i + 1) = omega arith in
    ap (stored 4 (λ c. c * n + i) (word_byte w)) e
    ∙ stored-ext 4 _ _ (λ k. place n (4 * i + k)) (λ k. f (place n (4 * i + k))) _ (λ c h. at c h) (λ c h. same c h ∙ ap f (at c h))
    ∙ sym (stored-append (4 * i) 4 (place n) (λ k. f (place n k)) out) ∙ ap (λ (k : ℕ). stored k (place n) (λ k. f (place n k)) out) q
  where
    at : (c : ℕ) → c < 4 → c * n + i ≡ place n (4 * i + c)
    at c h =
        let p : (4 * i + c) / 4 ≡ i = omega arith in
        let q : (4 * i + c) % 4 ≡ c = omega arith in
        rw (p, q)

-- a loop's end
pub columns-all : (n : ℕ) (f : ℕ → ℕ) (out now : List ℕ) (i : ℕ) → now ≡ stored (4 * i) (place n) (λ k. f (place n k)) out → i ≡ n → 4 * n ≤ length out
    → now ≡ written (4 * n) f out
columns-all n f out now i e q room =
    let P = place-permutes n in
    e ∙ ap (λ (k : ℕ). stored (4 * k) (place n) (λ k. f (place n k)) out) q
    ∙ stored-permuted (4 * n) (place n) (λ k. f (place n k)) out P room
    ∙ written-ext (4 * n) _ f out (λ k h. ap f (after-inverse (4 * n) (place n) P k h))

-- ---- the bits and the bytes of the columns

pub unrowed-bit : (h r c : ℕ) (e : ℕ → ℕ) → r < h → unrowed h e (c * h + r) ≡ e (4 * r + c)
unfolding unrowed
unrowed-bit h r c e l =
    let q : r * 4 + c ≡ 4 * r + c = omega arith in
    rw (digits_div c l, digits_mod c l) (ap e q)

pub unrowed-byte : (h i c : ℕ) (e : ℕ → ℕ) → i < h → pack 8 (λ j. e (32 * i + 4 * j + c)) ≡ byte_of (unrowed (8 * h) e) (c * h + i)
unfolding byte_of
unrowed-byte h i c e l =
    pack-ext 8 _ _ (λ j b.
    let p : c * (8 * h) + (8 * i + j) ≡ 8 * (c * h + i) + j = omega arith in
    let q : 4 * (8 * i + j) + c ≡ 32 * i + 4 * j + c = omega arith in
    sym (ap (unrowed (8 * h) e) (sym p) ∙ unrowed-bit (8 * h) (8 * i + j) c e (omega arith) ∙ ap e q))

-- the elements of the columns are elements of the rows
pub unrowed-lt : (h : ℕ) (e : ℕ → ℕ) → ((j : ℕ) → j < 4 * h → e j < 2) → (k : ℕ) → k < 4 * h → unrowed h e k < 2
unfolding unrowed
unrowed-lt h e binary k l =
    let pos : 0 < h = omega arith in
    let r : k % h < h = mod-lt k pos in
    let q : k / h < 4 = (div-lt_iff_lt-mul {k = h} pos).1 l in
    binary (k % h * 4 + k / h) (omega arith)
