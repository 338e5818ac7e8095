-- From columns to rows: the tallest columns, the rows of a word's bytes, rows stored one after the other, and the elements of the rows. Assumes nothing.
use mathlib.Core.Path.{◌≡◌, refl, sym, ap, ◌∙◌}
use mathlib.Core.List.{List}
use Prim.Native.Nat.{ℕ, ◌+◌, ◌-◌, ◌*◌, ◌/◌, ◌%◌, ◌^◌, ◌≤◌, ◌<◌}
use native.Mathlib.Nat.{add_comm, mul_left_comm, mul-le-mul_right, mod-lt}
use native.Mathlib.Omega.{arith}
use lib.Bits.{bit_and, and_shr, and_mod, and_mask}
use lib.Dec.{lit<}
use lib.ListN.{length, get_or}
use lib.Pow.{shr-shr, field, mod-mod-pow}
use borrow.Author.Tests.{eq-eqb}
use Rattle.bits.specs.Lists.{written}
use Rattle.bits.specs.Bits.{bit_at, bit_of}
use Rattle.bits.proofs.BitLaws.{byte-bit}
use Rattle.bits.specs.Loops.Words.{word_byte, stored}
use Rattle.bits.proofs.NumberLaws.{below-four}
use Rattle.bits.proofs.StoreLaws.{stored-run}
use Rattle.columns.specs.Columns.{rowed}
use Rattle.columns.specs.Loops.Heights.{tallest}

-- ---- the tallest columns

pub in_bytes : (h : ℕ) → h % 8 ≡ 0 → h ≤ tallest h → h ≤ 1040
in_bytes h e l = rw (eq-eqb (h % 8) 0 e) at l

-- ---- one bit of each byte of a word

-- a bit of some eight bits of a number, and their lowest bit after a shift
shifted-bit : (w k s : ℕ) → s < 8 → w / 2 ^ s / 2 ^ k % 2 ^ 8 % 2 ≡ bit_at s (w / 2 ^ k % 2 ^ 8)
shifted-bit w k s h =
    let a : 8 - s + s ≡ 8 = omega arith in
    let b : 7 - s + 1 ≡ 8 - s = omega arith in
    mod-mod-pow (w / 2 ^ s / 2 ^ k) 7 1
    ∙ ap (λ (x : ℕ). x % 2) (shr-shr w s k ∙ ap (λ (x : ℕ). w / 2 ^ x) (add_comm s k) ∙ sym (shr-shr w k s))
    ∙ sym (mod-mod-pow (w / 2 ^ k / 2 ^ s) (7 - s) 1)
    ∙ ap (λ (x : ℕ). w / 2 ^ k / 2 ^ s % 2 ^ x % 2) b
    ∙ ap (λ (x : ℕ). x % 2) (sym (field (w / 2 ^ k) (8 - s) s))
    ∙ ap (λ (x : ℕ). w / 2 ^ k % 2 ^ x / 2 ^ s % 2) a

-- the mask keeps the lowest bit of each byte
masked : (w s k : ℕ) → s < 8 → 16843009 / 2 ^ k % 2 ^ 8 ≡ 1 → bit_and (w / 2 ^ s) 16843009 / 2 ^ k % 2 ^ 8 ≡ bit_at s (w / 2 ^ k % 2 ^ 8)
masked w s k h e =
    ap (λ (x : ℕ). x % 2 ^ 8) (and_shr (w / 2 ^ s) 16843009 k) ∙ and_mod (w / 2 ^ s / 2 ^ k) (16843009 / 2 ^ k) 8
    ∙ ap (bit_and (w / 2 ^ s / 2 ^ k % 2 ^ 8)) e ∙ and_mask (w / 2 ^ s / 2 ^ k % 2 ^ 8) 1 ∙ shifted-bit w k s h

pub row-byte : (w s : ℕ) → s < 8 → (c : ℕ) → c < 4 → word_byte (bit_and (w / 2 ^ s) 16843009) c ≡ bit_at s (word_byte w c)
unfolding word_byte
row-byte w s h =
    below-four (λ c. word_byte (bit_and (w / 2 ^ s) 16843009) c ≡ bit_at s (word_byte w c))
    (masked w s 0 h refl) (masked w s 8 h refl) (masked w s 16 h refl) (masked w s 24 h refl)

-- ---- rows stored one after the other

-- a loop's turn: row j is stored
pub row_next : (j w : ℕ) (f : ℕ → ℕ) (out now : List ℕ) → now ≡ written (4 * j) f out → 4 * (j + 1) ≤ length out
    → ((c : ℕ) → c < 4 → word_byte w c ≡ f (4 * j + c)) → stored 4 (λ c. c * 1 + 4 * j) (word_byte w) now ≡ written (4 * (j + 1)) f out
row_next j w f out now e room same =
    let q : 4 * j + 4 ≡ 4 * (j + 1) = omega arith in
    stored-run 4 (4 * j) (word_byte w) f out now e (omega arith) same ∙ ap (λ (k : ℕ). written k f out) q

-- ---- the elements of the rows

-- where element k of the rows stands in columns of h
abbrev pub place : ℕ → ℕ → ℕ
place h k = k % 4 * h + k / 4

pub place-lt : (h k : ℕ) → k < 4 * h → place h k < 4 * h
place-lt h k l =
    let q : k % 4 ≤ 3 = omega arith in
    omega (arith, mul-le-mul_right {m = k % 4} {n = 3} h q)

-- of the eight rows of a word
pub word_row : (w r j c : ℕ) → c < 4 → r ≡ bit_at (7 - j) (word_byte w c) → r ≡ bit_at (7 - (4 * j + c) / 4) (word_byte w ((4 * j + c) % 4))
word_row w r j c h e =
    let p : (4 * j + c) / 4 ≡ j = omega arith in
    let q : (4 * j + c) % 4 ≡ c = omega arith in
    rw (p, q) e

-- of columns of h bytes, from the word of their bytes at i
pub rowed-word : (h i w : ℕ) (bytes : List ℕ) → ((c : ℕ) → c < 4 → word_byte w c ≡ get_or bytes (c * h + i) 0)
    → (k : ℕ) → k < 32 → bit_at (7 - k / 4) (word_byte w (k % 4)) ≡ rowed (8 * h) (bit_of bytes) (32 * i + k)
unfolding rowed
rowed-word h i w bytes e k l =
    let p : (32 * i + k) % 4 ≡ k % 4 = omega arith in
    let q : 8 * (k % 4 * h + i) + k / 4 ≡ k % 4 * (8 * h) + (32 * i + k) / 4 = omega (arith, mul_left_comm (k % 4) 8 h) in
    ap (bit_at (7 - k / 4)) (e (k % 4) (mod-lt k (lit< tt))) ∙ byte-bit bytes (k % 4 * h + i) (k / 4) (omega arith)
    ∙ ap (bit_of bytes) (q ∙ ap (λ (x : ℕ). x * (8 * h) + (32 * i + k) / 4) (sym p))

-- of columns of h bits
pub rowed-bits : (h r c : ℕ) (d : ℕ → ℕ) → c < 4 → d (c * h + r) ≡ rowed h d (4 * r + c)
unfolding rowed
rowed-bits h r c d l =
    let p : (4 * r + c) / 4 ≡ r = omega arith in
    let q : (4 * r + c) % 4 ≡ c = omega arith in
    rw (p, q)

pub rowed-ext : (h : ℕ) (d e : ℕ → ℕ) → ((i : ℕ) → i < 4 * h → d i ≡ e i) → (j : ℕ) → j < 4 * h → rowed h d j ≡ rowed h e j
unfolding rowed
rowed-ext h d e same j l = same (place h j) (place-lt h j l)
