-- A computed test over a range gives the fact at each number of it. Assumes nothing.
use mathlib.Core.Path.{◌≡◌, refl, subst, sym}
use mathlib.Core.Bool.{Bool, true, false, beq}
use mathlib.Core.Logic.{⊎_elim}
use Prim.Native.Nat.{ℕ, zero, suc, ◌<◌}
use native.Mathlib.Nat.{eq-or-lt_of_le, le_of_suc-le-suc, not-suc-le-zero}
use lib.Dec.{T, eqb, eqb→eq, ltb, ltb→lt}
use Rattle.bits.specs.Ranges.{all_below}
use Rattle.bits.proofs.BoolLaws.{and_left, and_right}

-- the law of the computed test
pub at_each : (n : ℕ) (f : ℕ → Bool) → T (all_below n f) → (k : ℕ) → k < n → T (f k)
at_each zero f t k h = absurd (not-suc-le-zero h)
at_each (suc n) f t k h =
    ⊎_elim (λ e. subst (λ (m : ℕ). T (f m)) (sym e) (and_left (f n) (all_below n f) t)) (λ l. at_each n f (and_right (f n) (all_below n f) t) k l)
    (eq-or-lt_of_le (le_of_suc-le-suc h))

pub at-each₂ : (m n : ℕ) (t : ℕ → ℕ → Bool) → T (all_below m (λ j. all_below n (t j))) → (j k : ℕ) → j < m → k < n → T (t j k)
at-each₂ m n t h j k hj hk = at_each n (t j) (at_each m (λ j. all_below n (t j)) h j hj) k hk

-- two functions that agree below a bound, of one, two, three and four numbers
pub agree : (n : ℕ) (f g : ℕ → ℕ) → T (all_below n (λ k. eqb (f k) (g k))) → (k : ℕ) → k < n → f k ≡ g k
agree n f g t k h = eqb→eq (f k) (g k) (at_each n (λ k. eqb (f k) (g k)) t k h)

pub agree₂ : (m n : ℕ) (f g : ℕ → ℕ → ℕ) → T (all_below m (λ j. all_below n (λ k. eqb (f j k) (g j k))))
    → (j k : ℕ) → j < m → k < n → f j k ≡ g j k
agree₂ m n f g t j k hj hk = eqb→eq (f j k) (g j k) (at-each₂ m n (λ j k. eqb (f j k) (g j k)) t j k hj hk)

pub agree₃ : (l m n : ℕ) (f g : ℕ → ℕ → ℕ → ℕ) → T (all_below l (λ i. all_below m (λ j. all_below n (λ k. eqb (f i j k) (g i j k)))))
    → (i j k : ℕ) → i < l → j < m → k < n → f i j k ≡ g i j k
agree₃ l m n f g t i j k hi hj hk =
    agree₂ m n (f i) (g i) (at_each l (λ i. all_below m (λ j. all_below n (λ k. eqb (f i j k) (g i j k)))) t i hi) j k hj hk

pub agree₄ : (k l m n : ℕ) (f g : ℕ → ℕ → ℕ → ℕ → ℕ)
    → T (all_below k (λ h. all_below l (λ i. all_below m (λ j. all_below n (λ k. eqb (f h i j k) (g h i j k))))))
    → (a b c d : ℕ) → a < k → b < l → c < m → d < n → f a b c d ≡ g a b c d
agree₄ k l m n f g t a b c d ha hb hc hd =
    agree₃ l m n (f a) (g a)
    (at_each k (λ h. all_below l (λ i. all_below m (λ j. all_below n (λ k. eqb (f h i j k) (g h i j k))))) t a ha) b c d hb hc hd

-- a function that stays under a bound
pub under : (n b : ℕ) (f : ℕ → ℕ) → T (all_below n (λ k. ltb (f k) b)) → (k : ℕ) → k < n → f k < b
under n b f t k h = ltb→lt (f k) b (at_each n (λ k. ltb (f k) b) t k h)

pub under₂ : (m n b : ℕ) (f : ℕ → ℕ → ℕ) → T (all_below m (λ j. all_below n (λ k. ltb (f j k) b))) → (j k : ℕ) → j < m → k < n → f j k < b
under₂ m n b f t j k hj hk = ltb→lt (f j k) b (at-each₂ m n (λ j k. ltb (f j k) b) t j k hj hk)

-- two tests that agree below a bound
pub agree-tests : (n : ℕ) (f g : ℕ → Bool) → T (all_below n (λ k. beq (f k) (g k))) → (k : ℕ) → k < n → f k ≡ g k
agree-tests n f g t k h = same (f k) (g k) (at_each n (λ k. beq (f k) (g k)) t k h)
  where
    same : (a b : Bool) → T (beq a b) → a ≡ b
    same true true u = refl
    same false false u = refl
    same true false u = absurd u
    same false true u = absurd u
