-- The factors' numerators are the nearest whole numbers, and no other is. Assumes nothing.
use Prim.Native.Nat.{ℕ, ◌+◌, ◌-◌, ◌*◌, ◌^◌, ◌<◌, ◌≤◌}
use native.Mathlib.Decide.{dec_lt}
use native.Mathlib.Nat.{le_antisymm, mul-le-mul_left, pow-le-pow_left}
use native.Mathlib.Omega.{arith}
use mathlib.Core.Path.{◌≡◌}
use lib.Dec.{lit<}
use Rattle.constellation.specs.Factors.{Nearest, qpsk_numerator, qam_numerator}

pub qpsk-nearest : Nearest 2 53 qpsk_numerator
qpsk-nearest = (lit< tt, lit< tt)

pub qam-nearest : Nearest 10 54 qam_numerator
qam-nearest = (lit< tt, lit< tt)

not-above : (k h : ℕ) {a b : ℕ} → Nearest k h a → Nearest k h b → a ≤ b
not-above k h {a} {b} p q = go (dec_lt b a)
  where
    go : Dec (b < a) → a ≤ b
    go (no n) = omega arith
    go (yes l) =
        let up : 2 * b + 1 ≤ 2 * a - 1 = omega arith in
        let sq : k * (2 * b + 1) ^ 2 ≤ k * (2 * a - 1) ^ 2 = mul-le-mul_left k (pow-le-pow_left up 2) in
        absurd (omega (arith, p.0, q.1))

-- there is one nearest whole number
pub nearest-one : (k h : ℕ) {a b : ℕ} → Nearest k h a → Nearest k h b → a ≡ b
nearest-one k h p q = le_antisymm (not-above k h p q) (not-above k h q p)
