-- Laws of tests over the numbers below a bound. Assumes nothing.
use Rattle.std.proofs.Common.{◌≡◌, refl, sym, ap, subst, ◌∙◌, Bool, true, false, ◌&&◌, ℕ, zero, suc, ◌+◌, ◌<◌, ◌≤◌, arith}
use Rattle.std.proofs.lemmas.Bool.{true≢false, false≢true}
use native.Mathlib.Nat.{eq-or-lt_of_le, le_of_suc-le-suc, not-suc-le-zero}
use mathlib.Core.Logic.{⊎_elim}
use Rattle.bits.specs.Ranges.{all_below}
use Rattle.bits.proofs.NumberLaws.{lt-cases}

-- a test that fails at one number fails over the range
pub fails : (n i : ℕ) (t : ℕ → Bool) → i < n → t i ≡ false → all_below n t ≡ false
fails zero i t h e = absurd (not-suc-le-zero h)
fails (suc n) i t h e =
    ⊎_elim (λ same. ap (λ (b : Bool). b && all_below n t) (ap t (sym same) ∙ e))
    (λ below. ap (λ (b : Bool). t n && b) (fails n i t below e) ∙ neither (t n)) (eq-or-lt_of_le (le_of_suc-le-suc h))
  where
    neither : (b : Bool) → (b && false) ≡ false
    neither true = refl
    neither false = refl

-- a test that holds at each number holds over the range
passes : (n : ℕ) (t : ℕ → Bool) → ((i : ℕ) → i < n → t i ≡ true) → all_below n t ≡ true
passes zero t h = refl
passes (suc n) t h = simp (h n (omega arith), passes n t (λ i below. h i (omega arith)))

-- what tells of the numbers from m on tells of the range, where the test holds below m
pub tested : (n m : ℕ) (t : ℕ → Bool) (r : Bool) → ((i : ℕ) → i < m → t i ≡ true) → (r ≡ true → (i : ℕ) → m ≤ i → i < n → t i ≡ true)
    → (r ≡ false → (i : ℕ) × (m ≤ i) × (i < n) × (t i ≡ false)) → r ≡ all_below n t
tested n m t true before alike other = sym (passes n t (λ i below. lt-cases i m (before i) (λ from. alike refl i from below)))
tested n m t false before alike other =
    let (i, from, below, e) = other refl in
    sym (fails n i t below e)

-- what a says of the numbers from one on, up to another
pub record Told (from to : ℕ) (t : ℕ → Bool) (a : Bool) : Type 0 where
  pub alike : a ≡ true → (i : ℕ) → from ≤ i → i < to → t i ≡ true
  pub other : a ≡ false → (i : ℕ) × (from ≤ i) × (i < to) × (t i ≡ false)

pub told_none : (from : ℕ) (t : ℕ → Bool) → Told from from t true
told_none from t = record { alike = λ is i low high. absurd (omega (arith, low, high)); other = λ e. absurd (true≢false e) }

pub told_next : (from i : ℕ) (t : ℕ → Bool) (a r : Bool) → r ≡ t i → from ≤ i → Told from i t a → Told from (i + 1) t (a && r)
told_next from i t true true e l h =
    record {
      alike = λ is k low high. lt-cases k i (λ m. h.alike refl k low m) (λ m. subst (λ (n : ℕ). t n ≡ true) (omega (arith, m, high)) (sym e));
      other = λ e. absurd (true≢false e);
    }
told_next from i t true false e l h =
    record { alike = λ e. absurd (false≢true e); other = λ is. (i, l, omega arith, sym e) }
told_next from i t false r e l h =
    record {
      alike = λ e. absurd (false≢true e);
      other = λ is. let (k, low, high, f) = h.other refl in (k, low, omega (arith, high), f);
    }
