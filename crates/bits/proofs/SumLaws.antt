-- Laws of sums and counts over the numbers below n. Assumes nothing.
use mathlib.Core.Path.{◌≡◌, refl, sym, ap, ap₂, ◌∙◌}
use mathlib.Core.Bool.{Bool, true, false, cond, ◌&&◌}
use mathlib.Core.Logic.{◌⊎◌, inl, inr}
use Prim.Native.Nat.{ℕ, zero, suc, ◌+◌, ◌-◌, ◌*◌, ◌≤◌, ◌<◌}
use native.Mathlib.Nat.{add-zero, zero-add, add-suc, zero-mul, suc-mul, eq-or-lt_of_le, le_of_suc-le-suc, not-suc-le-zero}
use native.Mathlib.Decide.{dec_lt}
use native.Mathlib.Numerals.{add-one}
use native.Mathlib.Omega.{arith}
use lib.Dec.{T, eqb, eqb→eq}
use borrow.Author.Tests.{eq-eqb, ne_eqb}
use Rattle.bits.specs.Lists.{lowest}
use Rattle.bits.specs.Sums.{sum, count}
use Rattle.bits.proofs.ListLaws.{lowest-here}

-- one turn of a loop
pub sum-next : (n : ℕ) (f : ℕ → ℕ) → sum (n + 1) f ≡ sum n f + f n
unfolding sum
sum-next n f = rw add-one

pub sum-ext : (n : ℕ) (f g : ℕ → ℕ) → ((k : ℕ) → k < n → f k ≡ g k) → sum n f ≡ sum n g
unfolding sum
sum-ext zero f g h = refl
sum-ext (suc n) f g h = omega (arith, sum-ext n f g (λ k l. h k (omega arith)), h n (omega arith))

pub sum-add : (n : ℕ) (f g : ℕ → ℕ) → sum n (λ k. f k + g k) ≡ sum n f + sum n g
unfolding sum
sum-add zero f g = refl
sum-add (suc n) f g = omega (arith, sum-add n f g)

pub sum-zero : (n : ℕ) (f : ℕ → ℕ) → ((k : ℕ) → k < n → f k ≡ 0) → sum n f ≡ 0
unfolding sum
sum-zero zero f h = refl
sum-zero (suc n) f h = omega (arith, sum-zero n f (λ k l. h k (omega arith)), h n (omega arith))

-- the first n, and the m after them
pub sum-append : (n m : ℕ) (f : ℕ → ℕ) → sum (n + m) f ≡ sum n f + sum m (λ k. f (n + k))
unfolding sum
sum-append n zero f = simp add-zero
sum-append n (suc m) f = rw add-suc (omega (arith, sum-append n m f))

-- m rows of n
pub sum_rows : (m n : ℕ) (f : ℕ → ℕ) → sum (m * n) f ≡ sum m (λ i. sum n (λ j. f (i * n + j)))
unfolding sum
sum_rows zero n f = rw zero-mul
sum_rows (suc m) n f = rw suc-mul (omega (arith, sum_rows m n f, sum-append (m * n) n f))

-- a sum of sums, either way round
pub sum-swap : (m n : ℕ) (f : ℕ → ℕ → ℕ) → sum m (λ i. sum n (λ j. f i j)) ≡ sum n (λ j. sum m (λ i. f i j))
unfolding sum
sum-swap zero n f = sym (sum-zero n (λ j. zero) (λ k h. refl))
sum-swap (suc m) n f = ap (λ (x : ℕ). x + sum n (f m)) (sum-swap m n f) ∙ sym (sum-add n (λ j. sum m (λ i. f i j)) (f m))

-- one term alone
pub sum_one : (n a v : ℕ) → a < n → sum n (λ k. cond (eqb a k) v 0) ≡ v
unfolding sum
sum_one zero a v h = absurd (not-suc-le-zero h)
sum_one (suc n) a v h = go (eq-or-lt_of_le (le_of_suc-le-suc h)) (sum_one n a v)
  where
    go : (a ≡ n) ⊎ (a < n) → (a < n → sum n (λ k. cond (eqb a k) v 0) ≡ v) → sum n (λ k. cond (eqb a k) v 0) + cond (eqb a n) v 0 ≡ v
    go (inl e) ih =
        ap₂ ◌+◌ (sum-zero n (λ k. cond (eqb a k) v 0) (λ k l. rw (ne_eqb a k (λ q. absurd (omega arith))))) (rw (eq-eqb a n e)) ∙ zero-add v
    go (inr l) ih = ap₂ ◌+◌ (ih l) (rw (ne_eqb a n (λ q. absurd (omega arith)))) ∙ add-zero v

-- two at a time
pub sum-pairs : (n : ℕ) (f : ℕ → ℕ) → sum (2 * n) f ≡ sum n (λ k. f (2 * k) + f (2 * k + 1))
unfolding sum
sum-pairs zero f = refl
sum-pairs (suc n) f =
    let twice : 2 * suc n ≡ suc (suc (2 * n)) = omega arith in
    rw (twice, add-one (2 * n)) (omega (arith, sum-pairs n f))

-- twice one sum and another, against the same of two others, term by term
pub sum-within : (n : ℕ) (f g p q : ℕ → ℕ) → ((k : ℕ) → k < n → 2 * f k + g k ≤ 2 * p k + q k) → 2 * sum n f + sum n g ≤ 2 * sum n p + sum n q
unfolding sum
sum-within zero f g p q h = omega arith
sum-within (suc n) f g p q h = omega (arith, sum-within n f g p q (λ k l. h k (omega arith)), h n (omega arith))

-- ---- counts

pub count_next : (n : ℕ) (t : ℕ → Bool) → count (n + 1) t ≡ count n t + cond (t n) 1 0
unfolding count
count_next n t = sum-next n (λ k. cond (t k) 1 0)

-- one more, where the number passes
pub count-true : (n : ℕ) (t : ℕ → Bool) → t n ≡ true → count (n + 1) t ≡ count n t + 1
count-true n t e = count_next n t ∙ ap (λ (b : Bool). count n t + cond b 1 0) e

pub one-le : (b : Bool) → cond b 1 0 ≤ 1
one-le true = omega arith
one-le false = omega arith

pub count-le : (n : ℕ) (t : ℕ → Bool) → count n t ≤ n
unfolding count sum
count-le zero t = omega arith
count-le (suc n) t = omega (arith, one-le (t n), count-le n t)

pub count-ext : (n : ℕ) (t u : ℕ → Bool) → ((k : ℕ) → k < n → t k ≡ u k) → count n t ≡ count n u
unfolding count
count-ext n t u h = sum-ext n (λ k. cond (t k) 1 0) (λ k. cond (u k) 1 0) (λ k l. ap (λ (b : Bool). cond b 1 0) (h k l))

-- the first n, and the m after them
pub count-append : (n m : ℕ) (t : ℕ → Bool) → count (n + m) t ≡ count n t + count m (λ k. t (n + k))
unfolding count
count-append n m t = sum-append n m (λ k. cond (t k) 1 0)

-- what passes s passes exactly one of three tests
pub count-three : (n : ℕ) (t u w s : ℕ → Bool) → ((k : ℕ) → k < n → cond (t k) 1 0 + cond (u k) 1 0 + cond (w k) 1 0 ≡ cond (s k) 1 0)
    → count n t + count n u + count n w ≡ count n s
unfolding count
count-three n t u w s h =
    omega (
      arith,
      sum-add n (λ k. cond (t k) 1 0) (λ k. cond (u k) 1 0),
      sum-add n (λ k. cond (t k) 1 0 + cond (u k) 1 0) (λ k. cond (w k) 1 0),
      sum-ext n (λ k. cond (t k) 1 0 + cond (u k) 1 0 + cond (w k) 1 0) (λ k. cond (s k) 1 0) h,
    )

-- a number that passes counts below every higher bound
pub count-lt : (m n : ℕ) (t : ℕ → Bool) → m < n → t m ≡ true → count m t < count n t
count-lt m n t h e =
    let whole : m + 1 + (n - (m + 1)) ≡ n = omega arith in
    let parts : count n t ≡ count (m + 1) t + count (n - (m + 1)) (λ k. t (m + 1 + k)) =
    ap (λ (k : ℕ). count k t) (sym whole) ∙ count-append (m + 1) (n - (m + 1)) t in
    omega (arith, count-true m t e)

-- none passes, and some number that passes makes the count positive
pub count_none : (n : ℕ) (t : ℕ → Bool) → ((k : ℕ) → k < n → t k ≡ false) → count n t ≡ 0
unfolding count
count_none n t h = sum-zero n (λ k. cond (t k) 1 0) (λ k l. ap (λ (b : Bool). cond b 1 0) (h k l))

pub count-zero : (n : ℕ) (t : ℕ → Bool) → count n t ≡ 0 → (k : ℕ) → k < n → t k ≡ false
unfolding count sum
count-zero zero t e k h = absurd (not-suc-le-zero h)
count-zero (suc n) t e k h = go (t n) refl (eq-or-lt_of_le (le_of_suc-le-suc h)) (count-zero n t (omega arith) k)
  where
    go : (b : Bool) → t n ≡ b → (k ≡ n) ⊎ (k < n) → (k < n → t k ≡ false) → t k ≡ false
    go b d (inr l) ih = ih l
    go false d (inl q) ih = rw q d
    go true d (inl q) ih = absurd (full (ap (λ (b : Bool). cond b 1 0) d))
      where
        full : ◌≡◌ {A = ℕ} (cond (t n) 1 0) 1 → ⊥
        full z = omega (arith, z, e)

-- those that pass another test as well are no more
pub count-and-le : (n : ℕ) (t u : ℕ → Bool) → count n (λ k. t k && u k) ≤ count n t
unfolding count sum
count-and-le zero t u = omega arith
count-and-le (suc n) t u = omega (arith, count-and-le n t u, last (t n) (u n))
  where
    last : (a b : Bool) → cond (a && b) 1 0 ≤ cond a 1 0
    last true b = one-le b
    last false b = omega arith

-- a test that is false wherever another holds
pub count-and-none : (n : ℕ) (t u : ℕ → Bool) → ((k : ℕ) → k < n → T (t k) → u k ≡ false) → count n (λ k. t k && u k) ≡ 0
count-and-none n t u h = count_none n _ (λ k l. at (t k) (u k) (h k l))
  where
    at : (a b : Bool) → (T a → b ≡ false) → (a && b) ≡ false
    at true b e = e tt
    at false b e = refl

-- a test of one number alone
pub count-one : (n b : ℕ) (t : ℕ → Bool) → b < n → count n (λ k. eqb k b && t k) ≡ cond (t b) 1 0
unfolding count sum
count-one zero b t h = absurd (not-suc-le-zero h)
count-one (suc n) b t h = go (eq-or-lt_of_le (le_of_suc-le-suc h)) (count-one n b t)
  where
    go : (b ≡ n) ⊎ (b < n) → (b < n → count n (λ k. eqb k b && t k) ≡ cond (t b) 1 0)
        → count n (λ k. eqb k b && t k) + cond (eqb n b && t n) 1 0 ≡ cond (t b) 1 0
    go (inl e) ih =
        ap₂ ◌+◌ (count-and-none n (λ k. eqb k b) t (λ k l u. absurd (omega (arith, eqb→eq k b u))))
        (ap (λ (c : Bool). cond (c && t n) 1 0) (eq-eqb n b (sym e)) ∙ ap (λ (m : ℕ). cond (t m) 1 0) (sym e))
        ∙ zero-add (cond (t b) 1 0)
    go (inr l) ih =
        ap₂ ◌+◌ (ih l) (ap (λ (c : Bool). cond (c && t n) 1 0) (ne_eqb n b (λ q. absurd (omega arith)))) ∙ add-zero (cond (t b) 1 0)

-- ---- the numbers that pass, in order

-- a number that passes is the one that passes after as many as pass below it
pub lowest-nth : (n : ℕ) (t : ℕ → Bool) (i : ℕ) → i < n → t i ≡ true → lowest n (λ k. t k && eqb (count k t) (count i t)) ≡ i
lowest-nth n t i h e = lowest-here n (λ k. t k && eqb (count k t) (count i t)) i h before here
  where
    here : (t i && eqb (count i t) (count i t)) ≡ true
    here = rw (e, eq-eqb (count i t) (count i t) refl)

    before : (k : ℕ) → k < i → (t k && eqb (count k t) (count i t)) ≡ false
    before k l = go (t k) refl
      where
        go : (b : Bool) → t k ≡ b → (b && eqb (count k t) (count i t)) ≡ false
        go false d = refl
        go true d = ne_eqb (count k t) (count i t) (λ q. let s : count k t < count i t = count-lt k i t l d in omega arith)

-- there is one for every count below the whole
pub nth : (n : ℕ) (t : ℕ → Bool) (j : ℕ) → j < count n t → (i : ℕ) × (i < n) × (t i ≡ true) × (count i t ≡ j)
unfolding count sum
nth zero t j h = absurd (not-suc-le-zero h)
nth (suc n) t j h = go (dec_lt j (count n t)) (t n) refl (nth n t j)
  where
    go : Dec (j < count n t) → (b : Bool) → t n ≡ b → (j < count n t → (i : ℕ) × (i < n) × (t i ≡ true) × (count i t ≡ j))
        → (i : ℕ) × (i < suc n) × (t i ≡ true) × (count i t ≡ j)
    go (yes l) b e ih = let (i, k, p, q) = ih l in (i, omega arith, p, q)
    go (no l) true e ih = (n, omega arith, e, omega (arith, h, ap {B = ℕ} (λ (b : Bool). cond b 1 0) e))
    go (no l) false e ih = absurd (none (ap (λ (b : Bool). cond b 1 0) e))
      where
        none : ◌≡◌ {A = ℕ} (cond (t n) 1 0) 0 → ⊥
        none z = omega (arith, h, z)
