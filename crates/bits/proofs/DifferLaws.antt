-- Bits that differ: those that are set in the exclusive-or. Assumes nothing.
use mathlib.Core.Path.{◌≡◌, sym, ap, ap₂, ◌∙◌}
use mathlib.Core.Bool.{Bool, cond, not}
use mathlib.Core.List.{List}
use Prim.Native.Nat.{ℕ, ◌+◌, ◌-◌, ◌*◌, ◌^◌, ◌/◌, ◌%◌, ◌<◌}
use native.Mathlib.Omega.{arith}
use lib.Bits.{bit_xor, xor_lt, xor_shr, xor_mod}
use lib.Count.{ones}
use lib.Dec.{eqb}
use lib.ListN.{get_or}
use Rattle.bits.specs.Bits.{bit_at, bit_of}
use Rattle.bits.specs.Sums.{sum, count}
use Rattle.bits.proofs.BitLaws.{byte-bit}
use Rattle.bits.proofs.RangeLaws.{agree, agree₂}
use Rattle.bits.proofs.SumLaws.{sum-ext, count-ext, count-append}

-- the set bits of a byte
ones-byte : (z : ℕ) → z < 256 → ones z ≡ sum 8 (λ j. bit_at (7 - j) z)
unfolding ones sum
ones-byte = agree 256 ones (λ z. sum 8 (λ j. bit_at (7 - j) z)) tt

unequal : (p q : ℕ) → p < 2 → q < 2 → bit_xor p q ≡ cond (not (eqb p q)) 1 0
unequal = agree₂ 2 2 bit_xor (λ p q. cond (not (eqb p q)) 1 0) tt

bit-xor : (k x y : ℕ) → bit_at k (bit_xor x y) ≡ cond (not (eqb (bit_at k x) (bit_at k y))) 1 0
bit-xor k x y =
    ap (λ (z : ℕ). z % 2) (xor_shr x y k) ∙ xor_mod (x / 2 ^ k) (y / 2 ^ k) 1
    ∙ unequal (bit_at k x) (bit_at k y) (omega arith) (omega arith)

pub differing-bits : (x y : ℕ) → x < 256 → y < 256 → ones (bit_xor x y) ≡ count 8 (λ j. not (eqb (bit_at (7 - j) x) (bit_at (7 - j) y)))
unfolding count
differing-bits x y hx hy = ones-byte (bit_xor x y) (xor_lt 8 x y hx hy) ∙ sum-ext 8 _ _ (λ j h. bit-xor (7 - j) x y)

-- the test that is counted
abbrev pub unlike : List ℕ → List ℕ → ℕ → Bool
unlike a b i = not (eqb (bit_of a i) (bit_of b i))

-- the bits that differ of the same two bytes
pub unlike-bytes : {p q x y : ℕ} → p ≡ x → q ≡ y
    → count 8 (λ j. not (eqb (bit_at (7 - j) p) (bit_at (7 - j) q))) ≡ count 8 (λ j. not (eqb (bit_at (7 - j) x) (bit_at (7 - j) y)))
unlike-bytes e d = ap₂ (λ (p q : ℕ). count 8 (λ j. not (eqb (bit_at (7 - j) p) (bit_at (7 - j) q)))) e d

-- one byte more
pub unlike-next : (a b : List ℕ) (i n r : ℕ) → n ≡ count (8 * i) (unlike a b)
    → r ≡ count 8 (λ j. not (eqb (bit_at (7 - j) (get_or a i 0)) (bit_at (7 - j) (get_or b i 0)))) → n + r ≡ count (8 * (i + 1)) (unlike a b)
unlike-next a b i n r hn hr =
    let e : 8 * i + 8 ≡ 8 * (i + 1) = omega arith in
    ap₂ ◌+◌ hn (hr ∙ count-ext 8 _ (λ j. unlike a b (8 * i + j)) (λ j h. ap₂ (λ (p q : ℕ). not (eqb p q)) (byte-bit a i j h) (byte-bit b i j h)))
    ∙ sym (count-append (8 * i) 8 (unlike a b)) ∙ ap (λ (m : ℕ). count m (unlike a b)) e
