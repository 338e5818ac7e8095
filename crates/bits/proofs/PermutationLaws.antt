-- Laws of permutations of the numbers below n. Assumes nothing.
use mathlib.Core.Path.{◌≡◌, refl, sym, ap, ap₂, ◌∙◌}
use mathlib.Core.Bool.{Bool, cond}
use Prim.Native.Nat.{ℕ, zero, suc, ◌+◌, ◌-◌, ◌*◌, ◌/◌, ◌%◌, ◌<◌}
use native.Mathlib.Nat.{not-suc-le-zero, lt-suc_self, mod-lt, mod-eq_of_lt, mod-add-mod, add-mul-mod_self_right, div-add-mod', div-lt_iff_lt-mul, mul_assoc, mul-add, suc-mul}
use native.Mathlib.Decide.{ℕ_discrete}
use native.Mathlib.Omega.{arith}
use lib.Arith.{digits_div, digits_mod, digits_lt}
use lib.Dec.{eqb}
use borrow.Author.Tests.{eqb-true, eqb-false, eq-eqb, ne_eqb}
use Rattle.bits.specs.Lists.{lowest}
use Rattle.bits.specs.Permutations.{Permutes, Once}
use Rattle.bits.specs.Sums.{sum}
use Rattle.bits.proofs.BoolLaws.{test-cases}
use Rattle.bits.proofs.ListLaws.{lowest-here}
use Rattle.bits.proofs.NumberLaws.{mod-mul-mod}
use Rattle.bits.proofs.SumLaws.{sum-ext, sum-swap, sum_one}

-- f reaches y from below n
abbrev pub Meets : ℕ → (ℕ → ℕ) → ℕ → Type 0
Meets n f y = (x : ℕ) × (x < n) × (f x ≡ y)

-- b where a is n, and a elsewhere
moved : (n b a : ℕ) → Dec (a ≡ n) → ℕ
moved n b a (yes e) = b
moved n b a (no h) = a

module _ (n : ℕ) (f : ℕ → ℕ) (P : Permutes (suc n) f) where
  -- f below n, with what goes to n sent where n goes
  closed : ℕ → ℕ
  closed x = moved n (f n) (f x) (ℕ_discrete (f x) n)

  -- below n nothing goes where n goes
  alone : (x : ℕ) → x < n → f x ≡ f n → ⊥
  alone x h e = let q : x ≡ n = P.apart x n (omega arith) (lt-suc_self n) e in omega arith

  closed-permutes : Permutes n closed
  unfolding closed moved
  closed-permutes =
      record {
        below = λ x h. small x h (ℕ_discrete (f x) n);
        apart = λ x y hx hy e. same x y hx hy (ℕ_discrete (f x) n) (ℕ_discrete (f y) n) e;
      }
    where
      small : (x : ℕ) → x < n → (d : Dec (f x ≡ n)) → moved n (f n) (f x) d < n
      small x h (yes e) = let q : f n < suc n = P.below n (lt-suc_self n) in let r : f n ≡ n → ⊥ = λ s. alone x h (e ∙ sym s) in omega arith
      small x h (no k) = let q : f x < suc n = P.below x (omega arith) in omega arith

      same : (x y : ℕ) → x < n → y < n → (d : Dec (f x ≡ n)) (d' : Dec (f y ≡ n)) → moved n (f n) (f x) d ≡ moved n (f n) (f y) d' → x ≡ y
      same x y hx hy (yes p) (yes q) r = P.apart x y (omega arith) (omega arith) (p ∙ sym q)
      same x y hx hy (yes p) (no q) r = absurd (alone y hy (sym r))
      same x y hx hy (no p) (yes q) r = absurd (alone x hx r)
      same x y hx hy (no p) (no q) r = P.apart x y (omega arith) (omega arith) r

  met : ((y : ℕ) → y < n → Meets n closed y) → (y : ℕ) → y < suc n → Meets (suc n) f y
  unfolding closed moved
  met rest y h = go (ℕ_discrete y (f n)) (ℕ_discrete y n)
    where
      -- where the closed function meets the place of n, f meets n
      back : Meets n closed (f n) → Meets (suc n) f n
      back (x, hx, e) = at (ℕ_discrete (f x) n) e
        where
          at : (d : Dec (f x ≡ n)) → moved n (f n) (f x) d ≡ f n → Meets (suc n) f n
          at (yes p) r = (x, omega arith, p)
          at (no p) r = absurd (alone x hx r)

      -- and elsewhere what the closed function meets
      same : (y ≡ f n → ⊥) → Meets n closed y → Meets (suc n) f y
      same k (x, hx, e) = at (ℕ_discrete (f x) n) e
        where
          at : (d : Dec (f x ≡ n)) → moved n (f n) (f x) d ≡ y → Meets (suc n) f y
          at (yes p) r = absurd (k (sym r))
          at (no p) r = (x, omega arith, r)

      go : Dec (y ≡ f n) → Dec (y ≡ n) → Meets (suc n) f y
      go (yes p) d = (n, lt-suc_self n, sym p)
      go (no p) (yes q) =
          let v : f n < suc n = P.below n (lt-suc_self n) in
          let m = back (rest (f n) (let s : f n ≡ n → ⊥ = λ r. p (q ∙ sym r) in omega arith)) in
          (m.0, m.1, m.2 ∙ sym q)
      go (no p) (no q) = same p (rest y (omega arith))

-- a permutation meets each number below n
pub onto : (n : ℕ) (f : ℕ → ℕ) → Permutes n f → (y : ℕ) → y < n → Meets n f y
onto zero f P y h = absurd (not-suc-le-zero h)
onto (suc n) f P y h = met n f P (onto n (closed n f P) (closed-permutes n f P)) y h

pub once : (n : ℕ) (f : ℕ → ℕ) → Permutes n f → Once n f
once n f P x h = let (p, l, e) = onto n f P x h in (p, l, e, λ o m d. P.apart o p m l (d ∙ sym e))

-- one order after the other
pub after : {n : ℕ} {f g : ℕ → ℕ} → Permutes n f → Permutes n g → Permutes n (λ x. f (g x))
after {f = f} {g} P Q =
    record {
      below = λ x h. P.below (g x) (Q.below x h);
      apart = λ x y hx hy e. Q.apart x y hx hy (P.apart (g x) (g y) (Q.below x hx) (Q.below y hy) e);
    }

-- a map that another one undoes
pub undone : {n : ℕ} (f g : ℕ → ℕ) → ((x : ℕ) → x < n → f x < n) → ((x : ℕ) → x < n → g (f x) ≡ x) → Permutes n f
undone f g small back = record { below = small; apart = λ x y hx hy e. sym (back x hx) ∙ ap g e ∙ back y hy }

-- an order that is given in two ways
pub permutes-ext : {n : ℕ} (f g : ℕ → ℕ) → ((x : ℕ) → x < n → g x ≡ f x) → Permutes n f → Permutes n g
permutes-ext f g e P =
    record {
      below = λ x h. rw (e x h) (P.below x h);
      apart = λ x y hx hy d. P.apart x y hx hy (sym (e x hx) ∙ d ∙ e y hy);
    }

-- ---- the inverse

-- the place of k, found by search
abbrev pub inverse : ℕ → (ℕ → ℕ) → ℕ → ℕ
inverse n f k = lowest n (λ i. eqb (f i) k)

module _ (n : ℕ) (f : ℕ → ℕ) (P : Permutes n f) where
  pub inverse-after : (i : ℕ) → i < n → inverse n f (f i) ≡ i
  inverse-after i h =
      lowest-here n (λ j. eqb (f j) (f i)) i h
      (λ j l. ne_eqb (f j) (f i) (λ e. let z : j ≡ i = P.apart j i (omega arith) h e in omega arith))
      (eq-eqb (f i) (f i) refl)

  pub after-inverse : (k : ℕ) → k < n → f (inverse n f k) ≡ k
  after-inverse k h =
      let (i, l, e) = onto n f P k h in
      ap (λ (x : ℕ). f (inverse n f x)) (sym e) ∙ ap f (inverse-after i l) ∙ e

  pub inverse-lt : (k : ℕ) → k < n → inverse n f k < n
  inverse-lt k h =
      let (i, l, e) = onto n f P k h in
      let z : inverse n f k ≡ i = ap (inverse n f) (sym e) ∙ inverse-after i l in
      rw z l

-- ---- sums

at-term : (h : ℕ → ℕ) (a b : ℕ) → ◌≡◌ {A = ℕ} (cond (eqb a b) (h a) 0) (cond (eqb a b) (h b) 0)
at-term h a b = test-cases (eqb a b) (λ e. ap (λ (x : ℕ). cond (eqb a b) (h x) 0) (eqb-true a b e)) (λ e. rw e)

-- the terms of a sum in another order
pub sum-permuted : (n : ℕ) (f : ℕ → ℕ) → Permutes n f → (h : ℕ → ℕ) → sum n (λ x. h (f x)) ≡ sum n h
sum-permuted n f P h =
    sum-ext n _ _ (λ x l. sym (sum_one n (f x) (h (f x)) (P.below x l)) ∙ sum-ext n _ _ (λ y k. at-term h (f x) y))
    ∙ sum-swap n n (λ x y. cond (eqb (f x) y) (h y) 0)
    ∙ sum-ext n _ _
    (λ y l.
    sum-ext n _ _ (λ x k. ap (λ (t : Bool). cond t (h y) 0) (turned x y k l)) ∙ sum_one n (inverse n f y) (h y) (inverse-lt n f P y l))
  where
    turned : (x y : ℕ) → x < n → y < n → eqb (f x) y ≡ eqb (inverse n f y) x
    turned x y k l =
        test-cases (eqb (f x) y)
        (λ e. e ∙ sym (eq-eqb (inverse n f y) x (ap (inverse n f) (sym (eqb-true (f x) y e)) ∙ inverse-after n f P x k)))
        (λ e. e ∙ sym (ne_eqb (inverse n f y) x (λ z. eqb-false (f x) y e (ap f (sym z) ∙ after-inverse n f P y l))))

-- ---- kinds of permutations

-- m rows of n: the rows in one order, and each row in an order of its own
pub rows-permute : (m n : ℕ) (σ : ℕ → ℕ) (τ : ℕ → ℕ → ℕ) → zero < n → Permutes m σ → ((i : ℕ) → i < m → Permutes n (τ i))
    → Permutes (m * n) (λ x. σ (x / n) * n + τ (x / n) (x % n))
rows-permute m n σ τ pos P Q = record { below = below; apart = apart }
  where
    row : (x : ℕ) → x < m * n → x / n < m
    row x h = (div-lt_iff_lt-mul {k = n} pos).1 h

    in_row : (x : ℕ) → x < m * n → τ (x / n) (x % n) < n
    in_row x h = (Q (x / n) (row x h)).below (x % n) (mod-lt x pos)

    below : (x : ℕ) → x < m * n → σ (x / n) * n + τ (x / n) (x % n) < m * n
    below x h = digits_lt (P.below (x / n) (row x h)) (in_row x h)

    apart : (x y : ℕ) → x < m * n → y < m * n → σ (x / n) * n + τ (x / n) (x % n) ≡ σ (y / n) * n + τ (y / n) (y % n) → x ≡ y
    apart x y hx hy e =
        let rows : σ (x / n) ≡ σ (y / n) =
        sym (digits_div (σ (x / n)) (in_row x hx)) ∙ ap (λ (k : ℕ). k / n) e ∙ digits_div (σ (y / n)) (in_row y hy) in
        let row_same : x / n ≡ y / n = P.apart (x / n) (y / n) (row x hx) (row y hy) rows in
        let places : τ (x / n) (x % n) ≡ τ (y / n) (y % n) =
        sym (digits_mod (σ (x / n)) (in_row x hx)) ∙ ap (λ (k : ℕ). k % n) e ∙ digits_mod (σ (y / n)) (in_row y hy) in
        let place_same : x % n ≡ y % n =
        (Q (x / n) (row x hx)).apart (x % n) (y % n) (mod-lt x pos) (mod-lt y pos) (places ∙ ap (λ (i : ℕ). τ i (y % n)) (sym row_same)) in
        sym (div-add-mod' x n) ∙ ap₂ (λ (a b : ℕ). a * n + b) row_same place_same ∙ div-add-mod' y n

-- moved up by any number, modulo n
pub moves : (n by : ℕ) → Permutes n (λ x. (x + by) % n)
moves n by =
    undone (λ x. (x + by) % n) (λ x. (x + (n - by % n)) % n)
    (λ x h. mod-lt (x + by) (omega arith))
    (λ x h. mod-add-mod (x + by) n (n - by % n) ∙ rw (sum x h, add-mul-mod_self_right) (mod-eq_of_lt h))
  where
    sum : (x : ℕ) → x < n → x + by + (n - by % n) ≡ x + suc (by / n) * n
    sum x h =
        let l : by % n < n = mod-lt by (omega arith) in
        omega (arith, div-add-mod' by n, suc-mul (by / n) n)

-- the order that changes nothing
pub in_order : (n : ℕ) → Permutes n (λ x. x)
in_order n = record { below = λ x h. h; apart = λ x y hx hy e. e }

-- multiples of a number that has an inverse modulo n
pub scales : (n a b rounds : ℕ) → a * b ≡ 1 + rounds * n → Permutes n (λ x. x * a % n)
scales n a b rounds e = undone (λ x. x * a % n) (λ x. x * b % n) (λ x h. mod-lt (x * a) (omega arith)) back
  where
    back : (x : ℕ) → x < n → x * a % n * b % n ≡ x
    back x h =
        mod-mul-mod (x * a) b n
        ∙ ap (λ (k : ℕ). k % n) (mul_assoc x a b ∙ ap (λ (k : ℕ). x * k) e ∙ mul-add x 1 (rounds * n) ∙ sides)
        ∙ add-mul-mod_self_right x (x * rounds) n ∙ mod-eq_of_lt h
      where
        sides : x * 1 + x * (rounds * n) ≡ x + x * rounds * n
        sides = omega (arith, mul_assoc x rounds n)
