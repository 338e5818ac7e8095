-- Laws of a word's four bytes. Assumes nothing.
use mathlib.Core.Path.{◌≡◌, refl, ap, ap₂, ◌∙◌}
use mathlib.Core.List.{List}
use Prim.Native.Nat.{ℕ, ◌+◌, ◌-◌, ◌*◌, ◌/◌, ◌%◌, ◌^◌, ◌<◌}
use native.Mathlib.Omega.{arith}
use lib.Bits.{bit_or, or_comm, or_self, or_shifted}
use lib.ListN.{get_or}
use Rattle.bits.proofs.NumberLaws.{below-four}
use Rattle.bits.proofs.RangeLaws.{agree, agree₂}
use Rattle.bits.specs.Bits.{bit_at}
use Rattle.bits.specs.Lists.{tabulate}
use Rattle.bits.specs.Loops.Words.{nibble, word_byte}
use Rattle.bits.proofs.ListLaws.{get_or-tabulate}

pub low_byte : {x : ℕ} (w : ℕ) → x ≡ w % 256 → x ≡ word_byte w 0
unfolding word_byte
low_byte w e = omega arith

-- the word of four bytes, the lowest first
abbrev pub joined : ℕ → ℕ → ℕ → ℕ → ℕ
joined a b c d = a + b * 256 + c * 65536 + d * 16777216

pub joined-byte : (f : ℕ → ℕ) (a b c d : ℕ) → a < 256 → b < 256 → c < 256 → d < 256 → a ≡ f 0 → b ≡ f 1 → c ≡ f 2 → d ≡ f 3
    → (k : ℕ) → k < 4 → word_byte (joined a b c d) k ≡ f k
unfolding word_byte
joined-byte f a b c d ha hb hc hd ea eb ec ed =
    below-four (λ k. word_byte (joined a b c d) k ≡ f k) (omega arith) (omega arith) (omega arith) (omega arith)

-- a word rotated left by bytes
abbrev pub rotated : ℕ → ℕ → ℕ
rotated w t = bit_or (w * 2 ^ (t * 8) % 4294967296) (w / 2 ^ ((32 - t * 8) % 32))

-- a word by its bytes
from-digits : (w x y a b c d : ℕ) → w ≡ x * 256 + a → x ≡ y * 256 + b → y ≡ d * 256 + c → w ≡ joined a b c d
from-digits w x y a b c d p q r = omega arith

module _ (a b c d : ℕ) (ha : a < 256) (hb : b < 256) (hc : c < 256) (hd : d < 256) where
  none : rotated (joined a b c d) 0 ≡ joined a b c d
  none =
      ap₂ bit_or (let e : joined a b c d * 1 % 4294967296 ≡ joined a b c d = omega arith in e)
      (let e : joined a b c d / 1 ≡ joined a b c d = omega arith in e)
      ∙ or_self (joined a b c d)

  -- the low bytes moved up and the high ones down
  one : rotated (joined a b c d) 1 ≡ joined d a b c
  one =
      ap₂ bit_or (let e : joined a b c d * 256 % 4294967296 ≡ (a + b * 256 + c * 65536) * 256 = omega arith in e)
      (let e : joined a b c d / 16777216 ≡ d = omega arith in e)
      ∙ or_shifted (a + b * 256 + c * 65536) 8 d hd ∙ omega arith

  two : rotated (joined a b c d) 2 ≡ joined c d a b
  two =
      ap₂ bit_or (let e : joined a b c d * 65536 % 4294967296 ≡ (a + b * 256) * 65536 = omega arith in e)
      (let e : joined a b c d / 65536 ≡ c + d * 256 = omega arith in e)
      ∙ or_shifted (a + b * 256) 16 (c + d * 256) (omega arith) ∙ omega arith

  three : rotated (joined a b c d) 3 ≡ joined b c d a
  three =
      ap₂ bit_or (let e : joined a b c d * 16777216 % 4294967296 ≡ a * 16777216 = omega arith in e)
      (let e : joined a b c d / 256 ≡ b + c * 256 + d * 65536 = omega arith in e)
      ∙ or_shifted a 24 (b + c * 256 + d * 65536) (omega arith) ∙ omega arith

module _ (w : ℕ) (hw : w < 4294967296) where
  byte-lt : (k : ℕ) → word_byte w k < 256
  unfolding word_byte
  byte-lt k = omega arith

  pub whole : w ≡ joined (word_byte w 0) (word_byte w 1) (word_byte w 2) (word_byte w 3)
  unfolding word_byte
  whole =
      from-digits w (w / 256) (w / 65536) (w / 1 % 256) (w / 256 % 256) (w / 65536 % 256) (w / 16777216 % 256)
      (omega arith) (omega arith) (omega arith)

  -- a word of these bytes has them
  bytes : (f : ℕ → ℕ) (x : ℕ) → x ≡ joined (word_byte w (f 0)) (word_byte w (f 1)) (word_byte w (f 2)) (word_byte w (f 3))
      → (b : ℕ) → b < 4 → word_byte x b ≡ word_byte w (f b)
  bytes f x e b h =
      ap (λ (y : ℕ). word_byte y b) e
      ∙ joined-byte (λ k. word_byte w (f k)) _ _ _ _ (byte-lt (f 0)) (byte-lt (f 1)) (byte-lt (f 2)) (byte-lt (f 3)) refl refl refl refl b h

  pub rotated-byte : (t : ℕ) → t < 4 → (b : ℕ) → b < 4 → word_byte (rotated w t) b ≡ word_byte w ((b + (4 - t)) % 4)
  rotated-byte =
      below-four (λ t. (b : ℕ) → b < 4 → word_byte (rotated w t) b ≡ word_byte w ((b + (4 - t)) % 4))
      (bytes (λ b. (b + 4) % 4) (rotated w 0) (by_bytes 0 ∙ none _ _ _ _ (byte-lt 0) (byte-lt 1) (byte-lt 2) (byte-lt 3)))
      (bytes (λ b. (b + 3) % 4) (rotated w 1) (by_bytes 1 ∙ one _ _ _ _ (byte-lt 0) (byte-lt 1) (byte-lt 2) (byte-lt 3)))
      (bytes (λ b. (b + 2) % 4) (rotated w 2) (by_bytes 2 ∙ two _ _ _ _ (byte-lt 0) (byte-lt 1) (byte-lt 2) (byte-lt 3)))
      (bytes (λ b. (b + 1) % 4) (rotated w 3) (by_bytes 3 ∙ three _ _ _ _ (byte-lt 0) (byte-lt 1) (byte-lt 2) (byte-lt 3)))
    where
      by_bytes : (t : ℕ) → rotated w t ≡ rotated (joined (word_byte w 0) (word_byte w 1) (word_byte w 2) (word_byte w 3)) t
      by_bytes t = ap (λ (x : ℕ). rotated x t) whole

  -- a word rotated right, which is left by the rest of the four bytes
  pub rotated-back-byte : (t : ℕ) → t < 4 → (b : ℕ) → b < 4
      → word_byte (bit_or (w / 2 ^ (t * 8)) (w * 2 ^ ((32 - t * 8) % 32) % 4294967296)) b ≡ word_byte w ((b + t) % 4)
  rotated-back-byte t h b l =
      ap (λ (x : ℕ). word_byte x b)
      (or_comm (w / 2 ^ (t * 8)) (w * 2 ^ ((32 - t * 8) % 32) % 4294967296)
      ∙ ap₂ (λ (u d : ℕ). bit_or (w * 2 ^ u % 4294967296) (w / 2 ^ d))
      (agree 4 (λ t. (32 - t * 8) % 32) (λ t. (4 - t) % 4 * 8) tt t h) (agree 4 (λ t. t * 8) (λ t. (32 - (4 - t) % 4 * 8) % 32) tt t h))
      ∙ rotated-byte ((4 - t) % 4) (omega arith) b l
      ∙ ap (word_byte w) (agree₂ 4 4 (λ t b. (b + (4 - (4 - t) % 4)) % 4) (λ t b. (b + t) % 4) tt t b h l)

-- ---- the bits of a byte by the words of its two halves

module _ (words : List ℕ) (b j : ℕ) (held : words ≡ tabulate 16 nibble) (b_lt : b < 256) (j-lt : j < 4) where
  word_at : (n : ℕ) → n < 16 → word_byte (get_or words n 0) j ≡ word_byte (nibble n) j
  word_at n h = ap (λ (w : ℕ). word_byte w j) (ap (λ (l : List ℕ). get_or l n 0) held ∙ get_or-tabulate 16 nibble n 0 h)

  pub word-high : word_byte (get_or words (b / 16) 0) j ≡ bit_at (7 - (0 + j)) b
  unfolding nibble word_byte
  word-high =
      word_at (b / 16) (omega arith)
      ∙ agree₂ 256 4 (λ b j. word_byte (nibble (b / 16)) j) (λ b j. bit_at (7 - (0 + j)) b) tt b j b_lt j-lt

  pub word_low : word_byte (get_or words (b % 16) 0) j ≡ bit_at (7 - (4 + j)) b
  unfolding nibble word_byte
  word_low =
      word_at (b % 16) (omega arith)
      ∙ agree₂ 256 4 (λ b j. word_byte (nibble (b % 16)) j) (λ b j. bit_at (7 - (4 + j)) b) tt b j b_lt j-lt
