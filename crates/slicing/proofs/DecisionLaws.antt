-- The tests that the code makes of a coordinate x, and of -x, lead to what `read2` and `read4` say. Assumes nothing.
use Prim.Native.Nat.{ℕ, ◌*◌, ◌<◌, ◌≤◌}
use native.Mathlib.Omega.{arith}
use native.Mathlib.Nat.{le_of_lt}
use mathlib.Core.Path.{◌≡◌, refl, sym, ◌∙◌, ap, subst}
use mathlib.Core.Bool.{Bool, true, false, not, cond, ◌&&◌, ◌||◌}
use borrow.Author.Tests.{ltb-true, ltb-false, le-ltb, eq-eqb, ne_eqb}
use lib.Dec.{ltb, eqb}
use lib.IntN.{ℤ}
use lib.Ieee.{Float, nan, inf, fin, binary64, up, down, mul, lt, le, neg}
use Rattle.constellation.specs.Factors.{factor_of}
use Rattle.constellation.specs.Mapping.{pair}
use Rattle.slicing.specs.Slicing.{Reading, level, lost, erasure_fraction, erasure_width, lower, upper, read2, read4, item2, pair4, axis2_of, axis4_of}

-- ---- at most is not above

at_most : (a b : ℕ) (c : Bool) → (ltb a b || (eqb a b && (true || c))) ≡ not (ltb b a)
at_most a b c = go (ltb b a) (ltb a b) refl refl
  where
    go : (t u : Bool) → ltb b a ≡ t → ltb a b ≡ u → (ltb a b || (eqb a b && (true || c))) ≡ not (ltb b a)
    go true u p q =
        let h : b < a = ltb-true b a p in
        let ne : a ≡ b → ⊥ = omega arith in
        simp (p, le-ltb a b (le_of_lt h), ne_eqb a b ne)
    go false true p q = simp (p, q)
    go false false p q =
        let h : a ≤ b = ltb-false b a p in
        let k : b ≤ a = ltb-false a b q in
        let e : a ≡ b = omega arith in
        simp (p, q, eq-eqb a b e)

pub le_not_lt : (n k : ℕ) (e d : ℤ) → le (fin false n e) (fin false k d) ≡ not (lt (fin false k d) (fin false n e))
unfolding le
le_not_lt n k e d = at_most (n * up e * down d) (k * up d * down e) (eqb (n * up e * down d) 0)

-- ---- the code's tests

-- what `above` finds
abbrev pub over : Float → Float → Bool
over width x = lt width x && lt x (inf false)

abbrev pub tests2 : Float → Float → Reading
tests2 width x = cond (over width x) (level 1) (cond (over width (neg x)) (level 0) lost)

abbrev pub tests4 : Float → Float → Float → Float → Reading
tests4 width low high x =
    cond (over width x) (cond (lt x low) (level 2) (cond (le x high) lost (level 3)))
    (cond (over width (neg x)) (cond (lt (neg x) low) (level 1) (cond (le (neg x) high) lost (level 0))) lost)

-- a test, and its reverse with the two cases exchanged
reverse : (b : Bool) (p l : Reading) → cond (b && true) p l ≡ cond (not b) l p
reverse true p l = refl
reverse false p l = refl

-- a size that is not at most the width is above it
above : (k n : ℕ) (d e : ℤ) (p : Reading) → cond (lt (fin false k d) (fin false n e) && true) p lost ≡ cond (le (fin false n e) (fin false k d)) lost p
above k n d e p = reverse (lt (fin false k d) (fin false n e)) p lost ∙ ap (λ (t : Bool). cond t lost p) (sym (le_not_lt n k e d))

same2 : (k : ℕ) (d : ℤ) (x : Float) → tests2 (fin false k d) x ≡ read2 (fin false k d) x
unfolding lt neg
same2 k d nan = refl
same2 k d (inf true) = refl
same2 k d (inf false) = refl
same2 k d (fin true n e) = above k n d e (level 0)
same2 k d (fin false n e) = above k n d e (level 1)

same4 : (k : ℕ) (d : ℤ) (low high x : Float) → tests4 (fin false k d) low high x ≡ read4 (fin false k d) low high x
unfolding lt neg
same4 k d low high nan = refl
same4 k d low high (inf true) = refl
same4 k d low high (inf false) = refl
same4 k d low high (fin true n e) = above k n d e (cond (lt (fin false n e) low) (level 1) (cond (le (fin false n e) high) lost (level 0)))
same4 k d low high (fin false n e) = above k n d e (cond (lt (fin false n e) low) (level 2) (cond (le (fin false n e) high) lost (level 3)))

-- ---- the erasure width is finite and not negative

abbrev pub Size : Float → Type 0
Size w = (n : ℕ) × (d : ℤ) × (w ≡ fin false n d)

-- what holds of the three factors holds at every modulation
pub each-factor : (P : Float → Type 0) → P (factor_of 0) → P (factor_of 1) → P (factor_of 2) → (m : ℕ) → P (factor_of m)
each-factor P x y z m = go (eqb m 0) (eqb m 1)
  where
    go : (a b : Bool) → P (cond a (factor_of 0) (cond b (factor_of 1) (factor_of 2)))
    go true b = x
    go false true = y
    go false false = z

pub width-size : (m : ℕ) → Size (erasure_width m)
unfolding mul
width-size m = each-factor (λ f. Size (mul binary64 f erasure_fraction)) (_, _, refl) (_, _, refl) (_, _, refl) m

-- ---- what a path through the code gives

pub axis2-tests : (m : ℕ) (x : Float) (r : Reading) → tests2 (erasure_width m) x ≡ r → item2 r ≡ axis2_of m x
unfolding axis2_of
axis2-tests m x r t =
    let w = width-size m in
    ap item2 (sym t ∙ subst (λ (u : Float). tests2 u x ≡ read2 u x) (sym w.2) (same2 w.0 w.1 x))

-- the items of what the size says, where the sign is known
sized : (a b : Bool) (k l : ℕ) → cond a (pair4 (level k)) (cond b (pair4 lost) (pair4 (level l))) ≡ pair4 (cond a (level k) (cond b lost (level l)))
sized true b k l = refl
sized false true k l = refl
sized false false k l = refl

axis4-tests : (x : Float) (r : Reading) → tests4 (erasure_width 2) lower upper x ≡ r → pair4 r ≡ axis4_of x
unfolding axis4_of
axis4-tests x r t =
    let w = width-size 2 in
    ap pair4 (sym t ∙ subst (λ (u : Float). tests4 u lower upper x ≡ read4 u lower upper x) (sym w.2) (same4 w.0 w.1 lower upper x))

pub axis4-positive : (x : Float) → over (erasure_width 2) x ≡ true
    → cond (lt x lower) (pair 0 1) (cond (le x upper) (pair 2 2) (pair 1 1)) ≡ axis4_of x
axis4-positive x t = sized (lt x lower) (le x upper) 2 3 ∙ axis4-tests x (cond (lt x lower) (level 2) (cond (le x upper) lost (level 3))) (simp t)

pub axis4-negative : (x : Float) → over (erasure_width 2) x ≡ false → over (erasure_width 2) (neg x) ≡ true
    → cond (lt (neg x) lower) (pair 0 0) (cond (le (neg x) upper) (pair 2 2) (pair 1 0)) ≡ axis4_of x
axis4-negative x t u =
    sized (lt (neg x) lower) (le (neg x) upper) 1 0
    ∙ axis4-tests x (cond (lt (neg x) lower) (level 1) (cond (le (neg x) upper) lost (level 0))) (simp (t, u))

pub axis4-lost : (x : Float) → over (erasure_width 2) x ≡ false → over (erasure_width 2) (neg x) ≡ false → pair 2 2 ≡ axis4_of x
axis4-lost x t u = axis4-tests x lost (simp (t, u))
