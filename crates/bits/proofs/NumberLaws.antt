-- Laws of numbers: below a bound or not, rows of equal length, and remainders. Assumes nothing.
use mathlib.Core.Path.{◌≡◌, sym, ap, ◌∙◌}
use Prim.Native.Nat.{ℕ, zero, suc, ◌+◌, ◌-◌, ◌*◌, ◌/◌, ◌%◌, ◌≤◌, ◌<◌}
use native.Mathlib.Nat.{add-mul, mul-le-mul_right, mul_right_comm, mod-lt, mod-eq_of_lt, mod-add-mod, mod-eq-sub-mod, div-add-mod', add-mul-mod_self_right}
use native.Mathlib.Omega.{arith}
use lib.Dec.{ltb}
use borrow.Author.Tests.{ltb-true, ltb-false}
use Rattle.bits.proofs.BoolLaws.{test-cases}

-- below n, or not
pub lt-cases {ℓ} : {P : Type ℓ} (x n : ℕ) → (x < n → P) → (n ≤ x → P) → P
lt-cases x n low high = test-cases (ltb x n) (λ e. low (ltb-true x n e)) (λ e. high (ltb-false x n e))

-- what holds at 0, 1, 2 and 3 holds below 4
pub below-four : (P : ℕ → Type 0) → P 0 → P 1 → P 2 → P 3 → (k : ℕ) → k < 4 → P k
below-four P a b c d zero h = a
below-four P a b c d (suc zero) h = b
below-four P a b c d (suc (suc zero)) h = c
below-four P a b c d (suc (suc (suc zero))) h = d
below-four P a b c d (suc (suc (suc (suc k)))) h = absurd (omega arith)

-- ---- rows of n

-- one row more
pub row_next : (m n : ℕ) → (m + 1) * n ≡ m * n + n
row_next m n = omega (arith, add-mul m 1 n)

-- row m is within the rows
pub row_within : (m n rows : ℕ) → m < rows → m * n + n ≤ rows * n
row_within m n rows h = omega (arith, row_next m n, mul-le-mul_right {m = m + 1} {n = rows} n (omega arith))

-- ---- remainders

pub mod-mul-mod : (a b n : ℕ) → a % n * b % n ≡ a * b % n
mod-mul-mod a b n =
    sym
    (ap (λ (k : ℕ). k * b % n) (sym (div-add-mod' a n))
    ∙ ap (λ (k : ℕ). k % n) (add-mul (a / n * n) (a % n) b ∙ omega (arith, mul_right_comm (a / n) n b)) ∙ add-mul-mod_self_right (a % n * b) (a / n * b) n)

-- two numbers less than n apart that are the same mod n are the same
pub mod-near : (n a e : ℕ) → e < n → (a + e) % n ≡ a % n → e ≡ 0
mod-near n a e h q = lt-cases (a % n + e) n under over
  where
    step : (a % n + e) % n ≡ a % n
    step = mod-add-mod a n e ∙ q

    under : a % n + e < n → e ≡ 0
    under l = omega (arith, mod-eq_of_lt l, step)

    over : n ≤ a % n + e → e ≡ 0
    over l =
        let r : a % n < n = mod-lt a (omega arith) in
        let s : (a % n + e - n) % n ≡ a % n + e - n = mod-eq_of_lt (omega arith) in
        omega (arith, mod-eq-sub-mod l, s, step)
