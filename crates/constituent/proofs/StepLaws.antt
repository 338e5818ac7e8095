-- The leaves' arithmetic on packed numbers is that of the rules. Assumes nothing.
use mathlib.Core.Path.{◌≡◌, ap₂, ◌∙◌}
use Prim.Native.Nat.{ℕ, ◌+◌, ◌*◌, ◌/◌, ◌%◌, ◌<◌}
use native.Mathlib.Nat.{mod-lt}
use native.Mathlib.Omega.{arith}
use lib.Dec.{lit<}
use lib.Bits.{bit_xor, bit_and}
use lib.Count.{ones, ones_in}
use Rattle.bits.proofs.RangeLaws.{agree, agree₂}
use Rattle.constituent.specs.Encoder.{plus, zero_input_step, tap_b1, tap_b2, next, parity}

-- ---- parity by a mask

-- the ones among the tapped bits of a word s1 s2 s3 u1 u2, at each word and each mask of five bits
five : (w m : ℕ) → w < 32 → m < 32 → ones (bit_and w m) % 2 ≡ parity m (w / 4) (w % 4)
unfolding ones ones_in parity
five = agree₂ 32 32 (λ w m. ones (bit_and w m) % 2) (λ w m. parity m (w / 4) (w % 4)) tt

-- parity asks only for the five low bits of the taps
low : (taps s u : ℕ) → parity (taps % 32) s u ≡ parity taps s u
unfolding parity
low taps s u =
    let c : taps % 32 / 4 % 8 ≡ taps / 4 % 8 = omega arith in
    let d : taps % 32 / 2 % 2 ≡ taps / 2 % 2 = omega arith in
    let e : taps % 32 % 2 ≡ taps % 2 = omega arith in
    rw (c, d, e)

pub tapped : (taps s u : ℕ) → s < 8 → u < 4 → ones (bit_and (s * 4 + u) (taps % 32)) % 2 ≡ parity taps s u
tapped taps s u hs hu =
    let a : (s * 4 + u) / 4 ≡ s = omega arith in
    let b : (s * 4 + u) % 4 ≡ u = omega arith in
    five (s * 4 + u) (taps % 32) (omega arith) (mod-lt taps (lit< tt)) ∙ low taps ((s * 4 + u) / 4) ((s * 4 + u) % 4) ∙ ap₂ (parity taps) a b

-- ---- the step

freed : (s : ℕ) → s < 8 → s % 2 * 4 + s / 4 * 2 + (s / 2 + s) % 2 ≡ zero_input_step s
unfolding zero_input_step
freed = agree 8 (λ s. s % 2 * 4 + s / 4 * 2 + (s / 2 + s) % 2) zero_input_step tt

pub stepped : (taps s u : ℕ) → s < 8 → u < 4
    → bit_xor (s % 2 * 4 + s / 4 * 2 + (s / 2 + s) % 2) (bit_xor (u / 2 * tap_b1 taps) (u % 2 * tap_b2 taps)) ≡ next taps s u
unfolding next plus
stepped taps s u hs hu =
    let a : u / 2 ≡ u / 2 % 2 = omega arith in
    let b : u % 2 ≡ u / 1 % 2 = omega arith in
    ap₂ bit_xor (freed s hs) (ap₂ (λ (v w : ℕ). bit_xor (v * tap_b1 taps) (w * tap_b2 taps)) a b)
