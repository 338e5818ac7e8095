-- Laws of reading a card: each field from the head and from the bytes that hold it. Assumes nothing.
use mathlib.Core.Path.{◌≡◌, refl, sym, ap, ◌∙◌}
use mathlib.Core.Bool.{Bool, true, false, cond, ◌||◌}
use mathlib.Core.List.{List, [], ◌∷◌}
use Prim.Native.Nat.{ℕ, ◌+◌, ◌-◌, ◌*◌, ◌/◌, ◌%◌, ◌^◌, ◌<◌, ◌≤◌}
use native.Mathlib.Omega.{arith}
use lib.Dec.{eqb}
use lib.ListN.{length, get_or}
use lib.Pow.{shr-shr}
use borrow.Author.Tests.{eqb-true}
use Rattle.bits.specs.Bits.{field}
use Rattle.bits.proofs.BitLaws.{field-none, field-in-byte, field-within}
use Rattle.bits.proofs.RangeLaws.{agree}
use Rattle.card.specs.declared.Card.{Card}
use Rattle.card.specs.Card.{fields_from, copy_count, card_of, padding_of}
use Rattle.card.specs.Loops.Heads.{head_of}

-- a card's length is 11 or 12
pub length-either : (n : ℕ) → (eqb n 11 || eqb n 12) ≡ true → (11 ≤ n) × (n ≤ 12)
length-either n e = go (eqb n 11) refl e
  where
    go : (b : Bool) → eqb n 11 ≡ b → (b || eqb n 12) ≡ true → (11 ≤ n) × (n ≤ 12)
    go true is e = let z = eqb-true n 11 is in (omega arith, omega arith)
    go false is e = let z = eqb-true n 12 e in (omega arith, omega arith)

-- a table of eight in place of six: codes 6 and 7 have no count
abbrev pub counts : List ℕ
counts = 1 ∷ 2 ∷ 4 ∷ 5 ∷ 7 ∷ 11 ∷ 0 ∷ 0 ∷ []

pub count_of : (code : ℕ) → code < 8 → get_or counts code 0 ≡ copy_count code
count_of = agree 8 (λ code. get_or counts code 0) copy_count tt

left : (b : Bool) → (b || false) ≡ true → b ≡ true
left true e = refl
left false e = e

-- a number shifted up by a byte, and down by more
shifted_up : (x rest : ℕ) → x * 256 / 2 ^ (8 + rest) ≡ x / 2 ^ rest
shifted_up x rest =
    let e : x * 256 / 2 ^ 8 ≡ x = omega arith in
    sym (shr-shr (x * 256) 8 rest) ∙ ap (λ (y : ℕ). y / 2 ^ rest) e

module _ (bytes : List ℕ) where
  -- a field of the first three bytes
  in_head : (at w rest : ℕ) → at + w + rest ≡ 24 → head_of bytes / 2 ^ (8 + rest) % 2 ^ w ≡ field bytes at w
  unfolding head_of
  in_head at w rest e = go (eqb (length bytes) 12)
    where
      long : at + w + (8 + rest) ≡ 32
      long = omega arith

      go : (b : Bool) → cond b (field bytes 0 32) (field bytes 0 24 * 256) / 2 ^ (8 + rest) % 2 ^ w ≡ field bytes at w
      go true = ap (λ (n : ℕ). field bytes 0 n / 2 ^ (8 + rest) % 2 ^ w) (sym long) ∙ field-within bytes at w (8 + rest)
      go false =
          ap (λ (x : ℕ). x % 2 ^ w) (shifted_up (field bytes 0 24) rest)
          ∙ ap (λ (n : ℕ). field bytes 0 n / 2 ^ rest % 2 ^ w) (sym e) ∙ field-within bytes at w rest

  -- the numbers in the bytes, by whether there are twelve
  abbrev numbers : Bool → List ℕ
  numbers b = fields_from bytes 0 (4 ∷ 2 ∷ 3 ∷ 1 ∷ 2 ∷ 11 ∷ 1 ∷ cond b (2 ∷ 3 ∷ 3 ∷ 64 ∷ []) (0 ∷ 0 ∷ 0 ∷ 64 ∷ []))

  head-twelve : eqb (length bytes) 12 ≡ true → head_of bytes ≡ field bytes 0 32
  unfolding head_of
  head-twelve is = rw is refl

  head-other : eqb (length bytes) 12 ≡ false → head_of bytes ≡ field bytes 0 24 * 256
  unfolding head_of
  head-other is = rw is refl

  -- the numbers of version 2 in the fourth byte, which are 0 where there is none
  blocks-in : (b : Bool) → eqb (length bytes) 12 ≡ b → head_of bytes / 2 ^ 6 % 4 ≡ get_or (numbers b) 7 0
  blocks-in true is = ap (λ (x : ℕ). x / 2 ^ 6 % 4) (head-twelve is) ∙ field-within bytes 24 2 6
  blocks-in false is = omega (arith, head-other is, field-none bytes 24)

  code_in : (b : Bool) → eqb (length bytes) 12 ≡ b → head_of bytes / 2 ^ 3 % 8 ≡ get_or (numbers b) 8 0
  code_in true is = ap (λ (x : ℕ). x / 2 ^ 3 % 8) (head-twelve is) ∙ field-within bytes 26 3 3
  code_in false is = omega (arith, head-other is, field-none bytes 24)

  serial-in : (b : Bool) → eqb (length bytes) 12 ≡ b → (eqb (length bytes) 11 || b) ≡ true → field bytes (8 * (length bytes - 8)) 64 ≡ get_or (numbers b) 10 0
  serial-in true is either = let z = eqb-true (length bytes) 12 is in rw z refl
  serial-in false is either = let z = eqb-true (length bytes) 11 (left (eqb (length bytes) 11) either) in rw z refl

  pub padding-byte : eqb (length bytes) 12 ≡ true → padding_of bytes ≡ get_or bytes 3 0 % 8
  unfolding padding_of
  padding-byte is = rw is (omega (arith, field-in-byte bytes 3 5 3 (omega arith)))

  pub unpacked : (h s copies : ℕ) → h ≡ head_of bytes → s ≡ field bytes (8 * (length bytes - 8)) 64 → copies ≡ copy_count (h / 2 ^ 3 % 8)
      → (eqb (length bytes) 11 || eqb (length bytes) 12) ≡ true
      → ◌≡◌ {A = Card}
      (record {
        version = h / 2 ^ 28 % 16;
        band = h / 2 ^ 26 % 4;
        kind = h / 2 ^ 23 % 8;
        rate = h / 2 ^ 22 % 2;
        modulation = h / 2 ^ 20 % 4;
        taps = h / 2 ^ 9 % 2048;
        spare = h / 2 ^ 8 % 2;
        serial = s;
        blocks = h / 2 ^ 6 % 4 + 1;
        copies = copies;
      })
      (card_of bytes)
  unfolding card_of
  unpacked h s copies e f g either = λ i.
      record {
        version = (ap (λ (x : ℕ). x / 2 ^ 28 % 16) e ∙ in_head 0 4 20 refl) i;
        band = (ap (λ (x : ℕ). x / 2 ^ 26 % 4) e ∙ in_head 4 2 18 refl) i;
        kind = (ap (λ (x : ℕ). x / 2 ^ 23 % 8) e ∙ in_head 6 3 15 refl) i;
        rate = (ap (λ (x : ℕ). x / 2 ^ 22 % 2) e ∙ in_head 9 1 14 refl) i;
        modulation = (ap (λ (x : ℕ). x / 2 ^ 20 % 4) e ∙ in_head 10 2 12 refl) i;
        taps = (ap (λ (x : ℕ). x / 2 ^ 9 % 2048) e ∙ in_head 12 11 1 refl) i;
        spare = (ap (λ (x : ℕ). x / 2 ^ 8 % 2) e ∙ in_head 23 1 0 refl) i;
        serial = (f ∙ serial-in (eqb (length bytes) 12) refl either) i;
        blocks = (ap (λ (x : ℕ). x / 2 ^ 6 % 4) e ∙ blocks-in (eqb (length bytes) 12) refl) i + 1;
        copies = (g ∙ ap (λ (k : ℕ). copy_count k) (ap (λ (x : ℕ). x / 2 ^ 3 % 8) e ∙ code_in (eqb (length bytes) 12) refl)) i;
      }
