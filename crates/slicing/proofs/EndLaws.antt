-- f/8 and 2f are exact, and each end about 2f is rounded once: it is the one f64 nearest to its exact number. Assumes nothing.
use Prim.Native.Nat.{ℕ, ◌*◌, ◌^◌}
use native.Mathlib.Omega.{arith}
use mathlib.Core.Path.{◌≡◌, refl}
use mathlib.Core.Bool.{false}
use lib.Dec.{lit<}
use lib.Ieee.{binary64, add, sub, mul, round, to_bits}
use lib.Ieee.Exact.{HasValue}
use Rattle.constellation.specs.Factors.{qam_numerator, factor_of}
use Rattle.slicing.specs.Slicing.{erasure_fraction, erasure_width, threshold, lower, upper}
use Rattle.slicing.specs.Ends.{Eighths, low_numerator, high_numerator, NearestEnd}
use Rattle.slicing.proofs.DecisionLaws.{each-factor}

-- ---- the width and the threshold

-- the width is an eighth of f at every modulation, and the threshold is 2f
pub width-exact : (m : ℕ) → Eighths 1 (factor_of m) (erasure_width m)
unfolding mul
width-exact m = each-factor (λ f. Eighths 1 f (mul binary64 f erasure_fraction)) (lit< tt, refl) (lit< tt, refl) (lit< tt, refl) m

pub threshold-exact : Eighths 16 (factor_of 2) threshold
unfolding mul
threshold-exact = (lit< tt, refl)

-- ---- the ends: 2f less f/8 is 15 eighths of f, and 2f plus f/8 is 17

-- each is its exact number, rounded once
pub lower-rounded : lower ≡ round binary64 false (15 * qam_numerator) (2 ^ 57)
unfolding sub mul
lower-rounded = refl

pub upper-rounded : upper ≡ round binary64 false (17 * qam_numerator) (2 ^ 57)
unfolding add mul
upper-rounded = refl

-- what that is as a plain number, and as bits
pub lower-value : HasValue lower false low_numerator (2 ^ 53)
unfolding sub mul
lower-value = (refl, refl)

pub upper-value : HasValue upper false high_numerator (2 ^ 53)
unfolding add mul
upper-value = (refl, refl)

pub lower-bits : to_bits binary64 lower ≡ 0x3fe2f9422c23c47e
unfolding sub mul to_bits
lower-bits = refl

pub upper-bits : to_bits binary64 upper ≡ 0x3fe580e4986ccda0
unfolding add mul to_bits
upper-bits = refl

-- that number is the nearest one
pub low-nearest : NearestEnd 15 low_numerator
low-nearest = (lit< tt, lit< tt, lit< tt, lit< tt)

pub high-nearest : NearestEnd 17 high_numerator
high-nearest = (lit< tt, lit< tt, lit< tt, lit< tt)

-- there is one nearest number
pub nearest-end-one : (k : ℕ) {a b : ℕ} → NearestEnd k a → NearestEnd k b → a ≡ b
nearest-end-one k p q = omega (arith, p.2, p.3, q.2, q.3)
