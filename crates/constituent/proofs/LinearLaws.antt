-- An encoder is linear in its state and its pairs, so that what a byte does is the sum of what its bits and the state do. Assumes nothing.
use mathlib.Core.Path.{◌≡◌, refl, sym, ap, ap₂, ◌∙◌}
use Prim.Native.Nat.{ℕ, zero, suc, ◌+◌, ◌-◌, ◌*◌, ◌/◌, ◌%◌, ◌^◌, ◌≤◌, ◌<◌}
use native.Mathlib.Nat.{mod-lt, one-mul}
use native.Mathlib.Omega.{arith}
use lib.Dec.{lit<}
use lib.Bits.{bit_xor, xor_zero_l, xor_zero_r, xor_comm, xor_shr, xor_mod, xor_block, xor_shifted}
use lib.Pow.{pow-add, pow_mono}
use Rattle.bits.specs.Bits.{bit_at}
use Rattle.bits.proofs.BitLaws.{xor_assoc}
use Rattle.bits.proofs.RangeLaws.{agree₂, agree₃}
use Rattle.constituent.specs.Encoder.{plus, zero_input_step, tap_b1, tap_b2, tap_c, tap_d1, tap_d2, next, dot, parity, state_at}
use Rattle.constituent.specs.Loops.Bytes.{parities, byte_word, pair_in}
use Rattle.constituent.proofs.StateLaws.{linear, state-lt}

-- ---- exclusive-or

-- sums of two sums
cross : (a b c d : ℕ) → bit_xor (bit_xor a b) (bit_xor c d) ≡ bit_xor (bit_xor a c) (bit_xor b d)
cross a b c d =
    xor_assoc a b (bit_xor c d)
    ∙ ap (bit_xor a) (sym (xor_assoc b c d) ∙ ap (λ (m : ℕ). bit_xor m d) (xor_comm b c) ∙ xor_assoc c b d)
    ∙ sym (xor_assoc a c (bit_xor b d))

-- ---- the step

-- a bit of the pair gates three bits of the taps
gated : (k u v b : ℕ) → b < 8 → bit_at k (bit_xor u v) * b ≡ bit_xor (bit_at k u * b) (bit_at k v * b)
gated k u v b h =
    ap (λ (m : ℕ). m * b) (ap (λ (m : ℕ). m % 2) (xor_shr u v k) ∙ xor_mod (u / 2 ^ k) (v / 2 ^ k) 1)
    ∙ agree₃ 2 2 8 (λ x y b. bit_xor x y * b) (λ x y b. bit_xor (x * b) (y * b)) tt (bit_at k u) (bit_at k v) b (mod-lt _ (lit< tt)) (mod-lt _ (lit< tt)) h

next-linear : (taps s d u v : ℕ) → s < 8 → d < 8 → next taps (bit_xor s d) (bit_xor u v) ≡ bit_xor (next taps s u) (next taps d v)
unfolding next plus
next-linear taps s d u v hs hd =
    ap₂ bit_xor (linear s d hs hd)
    (ap₂ bit_xor (gated 1 u v (tap_b1 taps) (mod-lt _ (lit< tt))) (gated 0 u v (tap_b2 taps) (mod-lt _ (lit< tt)))
    ∙ cross (bit_at 1 u * tap_b1 taps) (bit_at 1 v * tap_b1 taps) (bit_at 0 u * tap_b2 taps) (bit_at 0 v * tap_b2 taps))
    ∙ cross (zero_input_step s) (zero_input_step d) (bit_xor (bit_at 1 u * tap_b1 taps) (bit_at 0 u * tap_b2 taps))
    (bit_xor (bit_at 1 v * tap_b1 taps) (bit_at 0 v * tap_b2 taps))

-- ---- the parity bit

dot-linear : (s d c : ℕ) → s < 8 → d < 8 → c < 8 → dot (bit_xor s d) c % 2 ≡ bit_xor (dot s c % 2) (dot d c % 2)
dot-linear = agree₃ 8 8 8 (λ s d c. dot (bit_xor s d) c % 2) (λ s d c. bit_xor (dot s c % 2) (dot d c % 2)) tt

-- the input's part of the parity bit, D1 and D2 in one number
direct : ℕ → ℕ → ℕ
direct d u = (d / 2 % 2 * bit_at 1 u + d % 2 * bit_at 0 u) % 2

direct-linear : (u v d : ℕ) → u < 4 → v < 4 → d < 4 → direct d (bit_xor u v) ≡ bit_xor (direct d u) (direct d v)
unfolding direct
direct-linear = agree₃ 4 4 4 (λ u v d. direct d (bit_xor u v)) (λ u v d. bit_xor (direct d u) (direct d v)) tt

bit-sum : (x y : ℕ) → x < 2 → y < 2 → (x + y) % 2 ≡ bit_xor x y
bit-sum = agree₂ 2 2 (λ x y. (x + y) % 2) bit_xor tt

parts : (taps s u : ℕ) → parity taps s u ≡ bit_xor (dot s (tap_c taps) % 2) (direct (taps % 4) u)
unfolding parity direct
parts taps s u =
    let a : taps % 4 / 2 % 2 ≡ taps / 2 % 2 = omega arith in
    let b : taps % 4 % 2 ≡ taps % 2 = omega arith in
    rw (a, b, ← bit-sum (dot s (tap_c taps) % 2) ((tap_d1 taps * bit_at 1 u + tap_d2 taps * bit_at 0 u) % 2) (mod-lt _ (lit< tt)) (mod-lt _ (lit< tt))) (omega arith)

parity-linear : (taps s d u v : ℕ) → s < 8 → d < 8 → u < 4 → v < 4 → parity taps (bit_xor s d) (bit_xor u v) ≡ bit_xor (parity taps s u) (parity taps d v)
parity-linear taps s d u v hs hd hu hv =
    parts taps (bit_xor s d) (bit_xor u v)
    ∙ ap₂ bit_xor (dot-linear s d (tap_c taps) hs hd (mod-lt _ (lit< tt))) (direct-linear u v (taps % 4) hu hv (mod-lt _ (lit< tt)))
    ∙ cross (dot s (tap_c taps) % 2) (dot d (tap_c taps) % 2) (direct (taps % 4) u) (direct (taps % 4) v)
    ∙ sym (ap₂ bit_xor (parts taps s u) (parts taps d v))

pub bit-lt : (taps s u : ℕ) → parity taps s u < 2
unfolding parity
bit-lt taps s u = mod-lt _ (lit< tt)

-- ---- many pairs

module _ (taps : ℕ) (p q r : ℕ → ℕ) (sums : (j : ℕ) → r j ≡ bit_xor (p j) (q j)) where
  pub state-linear : (s d : ℕ) → s < 8 → d < 8 → (n : ℕ) → state_at taps r (bit_xor s d) n ≡ bit_xor (state_at taps p s n) (state_at taps q d n)
  unfolding state_at
  state-linear s d hs hd zero = refl
  state-linear s d hs hd (suc n) =
      ap₂ (next taps) (state-linear s d hs hd n) (sums n)
      ∙ next-linear taps (state_at taps p s n) (state_at taps q d n) (p n) (q n) (state-lt taps p s hs n) (state-lt taps q d hd n)

  parities-linear : ((j : ℕ) → p j < 4) → ((j : ℕ) → q j < 4) → (s d : ℕ) → s < 8 → d < 8 → (n : ℕ) → parities taps r (bit_xor s d) n ≡ bit_xor (parities taps p s n) (parities taps q d n)
  unfolding parities
  parities-linear hp hq s d hs hd zero = refl
  parities-linear hp hq s d hs hd (suc n) =
      let b : parity taps (state_at taps r (bit_xor s d) n) (r n) ≡ bit_xor (parity taps (state_at taps p s n) (p n)) (parity taps (state_at taps q d n) (q n)) =
      ap₂ (parity taps) (state-linear s d hs hd n) (sums n)
      ∙ parity-linear taps (state_at taps p s n) (state_at taps q d n) (p n) (q n) (state-lt taps p s hs n) (state-lt taps q d hd n) (hp n) (hq n) in
      ap₂ (λ (x y : ℕ). x * 4 + y) (parities-linear hp hq s d hs hd n) b
      ∙ sym
      (xor_block 2 (parities taps p s n) (parities taps q d n) (parity taps (state_at taps p s n) (p n)) (parity taps (state_at taps q d n) (q n))
      (omega (arith, bit-lt taps (state_at taps p s n) (p n))) (omega (arith, bit-lt taps (state_at taps q d n) (q n))))

pub parities-lt : (taps : ℕ) (p : ℕ → ℕ) (s n : ℕ) → parities taps p s n < 2 ^ (2 * n)
unfolding parities
parities-lt taps p s zero = omega arith
parities-lt taps p s (suc n) =
    let e : 2 * suc n ≡ 2 * n + 2 = omega arith in
    rw (e, pow-add 2 (2 * n) 2) (omega (arith, parities-lt taps p s n, bit-lt taps (state_at taps p s n) (p n)))

pub few-parities : (taps : ℕ) (p : ℕ → ℕ) (s n : ℕ) → n ≤ 4 → parities taps p s n < 256
few-parities taps p s n h = omega (arith, parities-lt taps p s n, pow_mono {i = 2 * n} {j = 8} (omega arith))

-- ---- bytes

in-lt : (b j : ℕ) → pair_in b j < 4
in-lt b j = mod-lt _ (lit< tt)

pub in-sums : (a b j : ℕ) → pair_in (bit_xor a b) j ≡ bit_xor (pair_in a j) (pair_in b j)
in-sums a b j = ap (λ (m : ℕ). m % 4) (xor_shr a b (6 - 2 * j)) ∙ xor_mod (a / 2 ^ (6 - 2 * j)) (b / 2 ^ (6 - 2 * j)) 2

word-linear : (taps s d a b : ℕ) → s < 8 → d < 8 → byte_word taps (bit_xor s d) (bit_xor a b) ≡ bit_xor (byte_word taps s a) (byte_word taps d b)
unfolding byte_word
word-linear taps s d a b hs hd =
    let x : ℕ = state_at taps (pair_in a) s 4 in
    let y : ℕ = state_at taps (pair_in b) d 4 in
    let hx : x < 8 = state-lt taps (pair_in a) s hs 4 in
    let hy : y < 8 = state-lt taps (pair_in b) d hd 4 in
    ap₂ (λ (m n : ℕ). m * 256 + n * 8)
    (parities-linear taps (pair_in a) (pair_in b) (pair_in (bit_xor a b)) (in-sums a b) (in-lt a) (in-lt b) s d hs hd 4)
    (state-linear taps (pair_in a) (pair_in b) (pair_in (bit_xor a b)) (in-sums a b) s d hs hd 4)
    ∙ ap (λ (n : ℕ). bit_xor (parities taps (pair_in a) s 4) (parities taps (pair_in b) d 4) * 256 + n) (eight x y hx hy)
    ∙ sym (xor_block 8 (parities taps (pair_in a) s 4) (parities taps (pair_in b) d 4) (x * 8) (y * 8) (omega arith) (omega arith))
  where
    eight : (x y : ℕ) → x < 8 → y < 8 → bit_xor x y * 8 ≡ bit_xor (x * 8) (y * 8)
    eight = agree₂ 8 8 (λ x y. bit_xor x y * 8) (λ x y. bit_xor (x * 8) (y * 8)) tt

-- the state's part and the byte's
pub word-parts : (taps s b : ℕ) → s < 8 → byte_word taps s b ≡ bit_xor (byte_word taps s 0) (byte_word taps 0 b)
word-parts taps s b hs =
    ap₂ (byte_word taps) (sym (xor_zero_r s)) (sym (xor_zero_l b)) ∙ word-linear taps s 0 0 b hs (lit< tt)

-- the highest bit's part and the part of those below it
pub word-doubled : (taps j i : ℕ) → i < 2 ^ j → byte_word taps 0 (2 ^ j + i) ≡ bit_xor (byte_word taps 0 i) (byte_word taps 0 (2 ^ j))
word-doubled taps j i h =
    let e : 2 ^ j + i ≡ bit_xor (2 ^ j) i = ap (λ (m : ℕ). m + i) (sym (one-mul (2 ^ j))) ∙ sym (xor_shifted 1 j i h) ∙ ap (λ (m : ℕ). bit_xor m i) (one-mul (2 ^ j)) in
    ap (byte_word taps 0) (e ∙ xor_comm (2 ^ j) i) ∙ word-linear taps 0 0 i (2 ^ j) (lit< tt) (lit< tt)
