-- Where a level is read it is strictly nearer to the coordinate than every other level, in exact numbers. Assumes nothing.
use Prim.Native.Nat.{ℕ, zero, suc, ◌*◌, ◌<◌}
use native.Mathlib.Omega.{arith}
use native.Mathlib.Nat.{mul-pos}
use mathlib.Core.Path.{◌≡◌, refl, sym, subst, ◌∙◌}
use mathlib.Core.Bool.{Bool, true, false, cond}
use borrow.Author.Tests.{ltb-true, not-false}
use lib.Dec.{lit<}
use lib.IntN.{ℤ}
use lib.Ieee.{Float, nan, inf, fin, up, down, add, sub, mul, lt, le}
use lib.Ieee.Fits.{up_pos, down_pos}
use lib.Ieee.Positive.{first_pos}
use Rattle.bits.proofs.BoolLaws.{test-cases}
use Rattle.bits.proofs.NumberLaws.{below-four}
use Rattle.constellation.specs.Factors.{factor_of}
use Rattle.slicing.specs.Slicing.{level, lost, erasure_width, lower, upper, read2, reading2, reading4}
use Rattle.slicing.specs.Distances.{scaled, apart, distance, negative2, negative4, size4}
use Rattle.slicing.proofs.DecisionLaws.{Size, each-factor, width-size, le_not_lt}

-- ---- a size X and the unit Y

-- level k is nearer than level j
abbrev Nearer4 : Bool → ℕ → ℕ → ℕ → ℕ → Type 0
Nearer4 s X Y k j = (j ≡ k → ⊥) → apart s X (negative4 k) (size4 k * Y) < apart s X (negative4 j) (size4 j * Y)

abbrev Nearest4 : Bool → ℕ → ℕ → ℕ → Type 0
Nearest4 s X Y k = (j : ℕ) → j < 4 → Nearer4 s X Y k j

module _ (X Y : ℕ) (unit : 0 < Y) where
  inner : 0 < X → X < 2 * Y → Nearest4 false X Y 2
  inner h k = below-four (Nearer4 false X Y 2) (λ n. omega arith) (λ n. omega arith) (λ n. absurd (n refl)) (λ n. omega arith)

  outer : 2 * Y < X → Nearest4 false X Y 3
  outer k = below-four (Nearer4 false X Y 3) (λ n. omega arith) (λ n. omega arith) (λ n. omega arith) (λ n. absurd (n refl))

  inner⁻ : 0 < X → X < 2 * Y → Nearest4 true X Y 1
  inner⁻ h k = below-four (Nearer4 true X Y 1) (λ n. omega arith) (λ n. absurd (n refl)) (λ n. omega arith) (λ n. omega arith)

  outer⁻ : 2 * Y < X → Nearest4 true X Y 0
  outer⁻ k = below-four (Nearer4 true X Y 0) (λ n. absurd (n refl)) (λ n. omega arith) (λ n. omega arith) (λ n. omega arith)

-- ---- what a comparison of two sizes says in whole numbers

module _ (n k : ℕ) (e d : ℤ) where
  less : lt (fin false n e) (fin false k d) ≡ true → scaled (fin false n e) (fin false k d) < scaled (fin false k d) (fin false n e)
  unfolding lt
  less t = ltb-true _ _ t

  more : le (fin false k d) (fin false n e) ≡ false → scaled (fin false n e) (fin false k d) < scaled (fin false k d) (fin false n e)
  more t = less (not-false _ (sym (le_not_lt k n d e) ∙ t))

-- ---- the tests of a size n · 2^e on an axis of four

abbrev size : ℕ → ℤ → ℕ
size n e = scaled (fin false n e) (factor_of 2)

abbrev unit : ℕ → ℤ → ℕ
unit n e = scaled (factor_of 2) (fin false n e)

unit-pos : (n : ℕ) (e : ℤ) → 0 < unit n e
unit-pos n e = omega (arith, down_pos e)

size-pos : (n : ℕ) (e : ℤ) → le (fin false n e) (erasure_width 2) ≡ false → 0 < size n e
unfolding mul
size-pos n e t = omega (arith, down_pos e, more _ n _ e t)

pub within : (n : ℕ) (e : ℤ) → lt (fin false n e) lower ≡ true → size n e < 2 * unit n e
unfolding add sub mul
within n e t = omega (arith, less n _ e _ t)

pub beyond : (n : ℕ) (e : ℤ) → le (fin false n e) upper ≡ false → 2 * unit n e < size n e
unfolding add sub mul
beyond n e t = omega (arith, more _ n _ e t)

-- ---- 16QAM

no : {C : Type 0} {k : ℕ} → lost ≡ level k → C
no e = let z : ◌≡◌ {A = ℕ} 0 1 = cc in absurd (omega arith)

-- what holds of the level that was read holds of k
moved : (P : ℕ → Type 0) {i k : ℕ} → level i ≡ level k → P i → P k
moved P {i} {k} e h = let w : i ≡ k = cc in subst P w h

found4 : (s : Bool) (n : ℕ) (e : ℤ) (k : ℕ) → reading4 (fin s n e) ≡ level k → Nearest4 s (size n e) (unit n e) k
found4 s n e k r =
    test-cases (le (fin false n e) (erasure_width 2)) (λ t. no (simp t at r)) λ a.
    test-cases (lt (fin false n e) lower) (λ t. near s (size-pos n e a) (within n e t) (simp (a, t) at r)) λ b.
    test-cases (le (fin false n e) upper) (λ t. no (simp (a, b, t) at r)) λ t. wide s (beyond n e t) (simp (a, b, t) at r)
  where
    near : (s : Bool) → 0 < size n e → size n e < 2 * unit n e → cond s (level 1) (level 2) ≡ level k → Nearest4 s (size n e) (unit n e) k
    near true h l e' = moved (Nearest4 true (size n e) (unit n e)) e' (inner⁻ _ _ (unit-pos n e) h l)
    near false h l e' = moved (Nearest4 false (size n e) (unit n e)) e' (inner _ _ (unit-pos n e) h l)

    wide : (s : Bool) → 2 * unit n e < size n e → cond s (level 0) (level 3) ≡ level k → Nearest4 s (size n e) (unit n e) k
    wide true l e' = moved (Nearest4 true (size n e) (unit n e)) e' (outer⁻ _ _ (unit-pos n e) l)
    wide false l e' = moved (Nearest4 false (size n e) (unit n e)) e' (outer _ _ (unit-pos n e) l)

-- where level k is read on an axis of 16QAM, every other level is further away
pub nearest4 : (x : Float) (k j : ℕ) → reading4 x ≡ level k → j < 4 → (j ≡ k → ⊥)
    → distance (factor_of 2) x (negative4 k) (size4 k) < distance (factor_of 2) x (negative4 j) (size4 j)
nearest4 nan k j e l n = no e
nearest4 (inf s) k j e l n = no e
nearest4 (fin s m d) k j e l n = found4 s m d k e j l n

-- ---- BPSK and QPSK

abbrev Nearest2 : Bool → ℕ → ℕ → ℕ → Type 0
Nearest2 s X Y k = (j : ℕ) → j < 2 → (j ≡ k → ⊥) → apart s X (negative2 k) (1 * Y) < apart s X (negative2 j) (1 * Y)

positive : (X Y : ℕ) → 0 < X → 0 < Y → Nearest2 false X Y 1
positive X Y h k zero l n = omega arith
positive X Y h k (suc zero) l n = absurd (n refl)
positive X Y h k (suc (suc j)) l n = absurd (omega arith)

positive⁻ : (X Y : ℕ) → 0 < X → 0 < Y → Nearest2 true X Y 0
positive⁻ X Y h k zero l n = absurd (n refl)
positive⁻ X Y h k (suc zero) l n = omega arith
positive⁻ X Y h k (suc (suc j)) l n = absurd (omega arith)

-- the factor is positive, and a size above the width is
abbrev pub Positive : Float → Type 0
Positive f = (k : ℕ) × (d : ℤ) × (f ≡ fin false k d) × (0 < k)

pub factor-positive : (m : ℕ) → Positive (factor_of m)
factor-positive m = each-factor Positive (_, _, refl, lit< tt) (_, _, refl, lit< tt) (_, _, refl, lit< tt) m

above-pos : (w : Float) (n : ℕ) (e : ℤ) → Size w → le (fin false n e) w ≡ false → 0 < n
above-pos w n e p t =
    let u = subst (λ (v : Float). le (fin false n e) v ≡ false) p.2 t in
    let h = more p.0 n p.1 e u in
    let g : 0 < n * up e * down p.1 = omega (arith, h) in
    first_pos n (up e) (first_pos (n * up e) (down p.1) g)

scaled-pos : (n : ℕ) (a b : ℤ) → 0 < n → 0 < n * up a * down b
scaled-pos n a b h = mul-pos (mul-pos h (up_pos a)) (down_pos b)

found2 : (w : Float) (s : Bool) (n : ℕ) (e : ℤ) (k c : ℕ) (d : ℤ) → Size w → 0 < c → read2 w (fin s n e) ≡ level k
    → Nearest2 s (n * up e * down d) (c * up d * down e) k
found2 w s n e k c d p q r =
    test-cases (le (fin false n e) w) (λ t. no (simp t at r)) λ t.
    signed s (scaled-pos n e d (above-pos w n e p t)) (scaled-pos c d e q) (simp t at r)
  where
    signed : (s : Bool) {X Y : ℕ} → 0 < X → 0 < Y → cond s (level 0) (level 1) ≡ level k → Nearest2 s X Y k
    signed true {X} {Y} h l e' = moved (Nearest2 true X Y) e' (positive⁻ X Y h l)
    signed false {X} {Y} h l e' = moved (Nearest2 false X Y) e' (positive X Y h l)

-- where level k is read on an axis of two levels, the other one is further away
pub nearest2 : (m : ℕ) (x : Float) (k j : ℕ) → reading2 m x ≡ level k → j < 2 → (j ≡ k → ⊥)
    → distance (factor_of m) x (negative2 k) 1 < distance (factor_of m) x (negative2 j) 1
nearest2 m nan k j e l n = no e
nearest2 m (inf s) k j e l n = no e
nearest2 m (fin s a b) k j e l n =
    let u = factor-positive m in
    subst (λ (f : Float). distance f (fin s a b) (negative2 k) 1 < distance f (fin s a b) (negative2 j) 1) (sym u.2)
    (found2 (erasure_width m) s a b k u.0 u.1 (width-size m) u.3 e j l n)
