-- Slicing is what the papers word over exact numbers. Assumes nothing.
use Prim.Native.Nat.{ℕ, ◌*◌, ◌^◌, ◌<◌}
use native.Mathlib.Omega.{arith}
use native.Mathlib.Nat.{le_of_lt, mul-le-mul_left, mul-lt-mul_of_pos_left, mul-pos}
use mathlib.Core.Path.{◌≡◌, refl, sym, ◌∙◌, ap, ap₂}
use mathlib.Core.Bool.{Bool, true, false, not, cond, ◌&&◌, ◌||◌, not-not, true≢false, false≢true}
use borrow.Author.Tests.{lt-ltb, le-ltb, le-leb, lt-leb, leb-true, leb-false}
use lib.Dec.{leb, ltb, lit<}
use lib.IntN.{ℤ}
use lib.Ieee.{Float, nan, inf, fin, up, down, sub, mul, lt, le}
use lib.Ieee.Exact.{HasValue}
use lib.Ieee.Fits.{down_pos}
use Rattle.bits.proofs.BoolLaws.{test-cases}
use Rattle.constellation.specs.Factors.{factor_of}
use Rattle.slicing.specs.Slicing.{Reading, level, lost, erasure_width, lower, upper, reading2, reading4}
use Rattle.slicing.specs.Distances.{at_most}
use Rattle.slicing.specs.Ends.{Eighths, low_numerator, high_numerator, low_end, high_end}
use Rattle.slicing.specs.PaperWords.{at_most_eighth, below_twice, worded2, worded4}
use Rattle.slicing.proofs.DecisionLaws.{Size, width-size, le_not_lt}
use Rattle.slicing.proofs.EndLaws.{width-exact, lower-value, upper-value}
use Rattle.slicing.proofs.NearestLevel.{factor-positive, within, beyond}

-- ---- two sizes compared, over whole numbers

below : (a b : ℕ) → ltb a b ≡ not (leb b a)
below a b = test-cases (leb b a) (λ t. le-ltb a b (leb-true b a t) ∙ sym (ap not t)) (λ t. lt-ltb a b (leb-false b a t) ∙ sym (ap not t))

alike : (r a b : ℕ) → 0 < r → leb (r * a) (r * b) ≡ leb a b
alike r a b h =
    test-cases (leb a b) (λ t. le-leb (r * a) (r * b) (mul-le-mul_left r (leb-true a b t)) ∙ sym t)
    (λ t. lt-leb (r * a) (r * b) (mul-lt-mul_of_pos_left (leb-false a b t) h) ∙ sym t)

-- the same two numbers on two scales
rescaled : (r t a b c d : ℕ) → 0 < r → 0 < t → r * a ≡ t * c → r * b ≡ t * d → leb a b ≡ leb c d
rescaled r t a b c d h l x y = sym (alike r a b h) ∙ ap₂ leb x y ∙ alike t c d l

-- a / c at most p / q
le-value : (x y : Float) (a c p q : ℕ) → 0 < c → 0 < q → HasValue x false a c → HasValue y false p q → le x y ≡ leb (a * q) (p * c)
unfolding lt
le-value nan y a c p q l h u v = absurd u
le-value (inf s) y a c p q l h u v = absurd u
le-value (fin s n e) nan a c p q l h u v = absurd v
le-value (fin s n e) (inf t) a c p q l h u v = absurd v
le-value (fin s n e) (fin t k d) a c p q l h u v =
    let x = n * up e * down d in
    let y = k * up d * down e in
    (λ i. le (fin (u.0 i) n e) (fin (v.0 i) k d))
    ∙ le_not_lt n k e d ∙ ap not (below y x) ∙ not-not (leb x y)
    ∙ rescaled (c * q) (down e * down d) x y (a * q) (p * c) (mul-pos l h) (mul-pos (down_pos e) (down_pos d))
    (omega (arith, ap (λ (z : ℕ). z * (q * down d)) u.1)) (omega (arith, ap (λ (z : ℕ). z * (c * down e)) v.1))

-- ---- the words

-- a width that is an eighth of f tells what is at most that
eighth : (s : Bool) (n : ℕ) (e : ℤ) (f w : Float) → Size f → Size w → Eighths 1 f w → le (fin false n e) w ≡ at_most_eighth f (fin s n e)
eighth s n e f w (c, b, x) (k, d, y) h =
    let v = rw (x, y) at h in
    rw (x, y)
    (le-value (fin false n e) (fin false k d) (n * up e) (down e) (c * up b) (8 * down b) (down_pos e) (omega (arith, down_pos b)) (refl, refl) (refl, omega (arith, v.1))
    ∙ ap (λ (z : ℕ). leb z (c * up b * down e)) (omega arith))

up-to-eighth : (m : ℕ) (s : Bool) (n : ℕ) (e : ℤ) → le (fin false n e) (erasure_width m) ≡ at_most_eighth (factor_of m) (fin s n e)
up-to-eighth m s n e =
    let f = factor-positive m in
    eighth s n e (factor_of m) (erasure_width m) (f.0, f.1, f.2) (width-size m) (width-exact m)

pub words2 : (m : ℕ) (x : Float) → reading2 m x ≡ worded2 m x
words2 m nan = refl
words2 m (inf s) = refl
words2 m (fin s n e) = ap (λ (t : Bool). cond t lost (cond s (level 0) (level 1))) (up-to-eighth m s n e)

from_low : (n : ℕ) (e : ℤ) → lt (fin false n e) lower ≡ not (at_most low_end (fin false n e))
unfolding sub mul
from_low n e =
    sym (ap not (le_not_lt _ n _ e) ∙ not-not (lt (fin false n e) lower))
    ∙ ap not (le-value lower (fin false n e) low_numerator (2 ^ 53) (n * up e) (down e) (lit< tt) (down_pos e) lower-value (refl, refl))

to_high : (n : ℕ) (e : ℤ) → le (fin false n e) upper ≡ at_most (fin false n e) high_end
to_high n e = le-value (fin false n e) upper (n * up e) (down e) high_numerator (2 ^ 53) (down_pos e) (lit< tt) (refl, refl) upper-value

-- a: at most f/8; b: from the low end on; h: up to the high end; t: below 2f
parts : (a b h t : Bool) (inner outer : Reading) → (b ≡ false → t ≡ true) → (h ≡ false → t ≡ false)
    → cond a lost (cond (not b) inner (cond h lost outer)) ≡ cond (a || (b && h)) lost (cond t inner outer)
parts true b h t i o f g = refl
parts false true true t i o f g = refl
parts false true false true i o f g = absurd (true≢false (g refl))
parts false true false false i o f g = refl
parts false false h true i o f g = refl
parts false false h false i o f g = absurd (false≢true (f refl))

pub words4 : (x : Float) → reading4 x ≡ worded4 x
words4 nan = refl
words4 (inf s) = refl
words4 (fin s n e) =
    (λ i. cond (up-to-eighth 2 s n e i) lost (cond (from_low n e i) inner (cond (to_high n e i) lost outer)))
    ∙ parts (at_most_eighth (factor_of 2) (fin s n e)) (at_most low_end (fin s n e)) (at_most (fin s n e) high_end) (below_twice (factor_of 2) (fin s n e)) inner outer
    (λ t. lt-ltb _ _ (within n e (from_low n e ∙ ap not t))) (λ t. le-ltb _ _ (le_of_lt (beyond n e (to_high n e ∙ t))))
  where
    inner : Reading
    inner = cond s (level 1) (level 2)

    outer : Reading
    outer = cond s (level 0) (level 3)
