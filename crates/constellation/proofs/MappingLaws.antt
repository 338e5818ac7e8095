-- Laws of mapping at each modulation, and of its rows. Assumes nothing.
use mathlib.Core.List.{List}
use mathlib.Core.Path.{◌≡◌, sym, ap, ◌∙◌}
use Prim.Native.Nat.{ℕ, ◌≤◌, ◌<◌}
use native.Mathlib.Omega.{arith}
use borrow.Author.Tests.{lt-ltb, le-ltb}
use lib.IntN.{ℤ, pos}
use lib.Ieee.{Float, binary64, mul, of_int}
use lib.ListN.{length, get_or}
use Rattle.bits.specs.Lists.{first_above}
use Rattle.bits.proofs.RangeLaws.{under}
use Rattle.refusal.specs.declared.Refusal.TheVariants.{Item}
use Rattle.refusal.specs.Report.{done, refusal}
use Rattle.card.specs.Modes.{carrier_bits}
use Rattle.constellation.specs.declared.Point.{Point}
use Rattle.constellation.specs.Factors.{factor_of}
use Rattle.constellation.specs.Mapping.{level2_of, level4_of, level_i, level_q, coordinate, point_of, mapping_of}

pub carrier-bits-le : (m : ℕ) → m ≤ 2 → carrier_bits m ≤ 4
carrier-bits-le m h = let b : carrier_bits m < 5 = under 3 5 carrier_bits tt m (omega arith) in omega arith

-- ---- the point at each modulation, from the factor and the two levels as the code has them

abbrev point : Float → Float → Point
point x y = record { i = x; q = y }

products : (m : ℕ) {f x y : Float} (a b : ℤ) → f ≡ factor_of m → x ≡ of_int binary64 a → y ≡ of_int binary64 b
    → point (mul binary64 x f) (mul binary64 y f) ≡ point (coordinate m a) (coordinate m b)
products m a b e g h = λ i. point (mul binary64 (g i) (e i)) (mul binary64 (h i) (e i))

-- the levels go by a modulation that is known
known : (m : ℕ) (d : ℕ → ℕ) {n : ℕ} → m ≡ n → point (coordinate m (level_i n d)) (coordinate m (level_q n d)) ≡ point_of m d
unfolding point_of
known m d e = ap (λ (n : ℕ). point (coordinate m (level_i n d)) (coordinate m (level_q n d))) (sym e)

module _ (m : ℕ) (d : ℕ → ℕ) {f x y : Float} where
  pub point-bpsk : m ≡ 0 → f ≡ factor_of m → x ≡ of_int binary64 (level2_of (d 0)) → y ≡ of_int binary64 (pos 0)
      → point (mul binary64 x f) (mul binary64 y f) ≡ point_of m d
  point-bpsk e f g h = products m (level2_of (d 0)) (pos 0) f g h ∙ known m d e

  pub point-qpsk : m ≡ 1 → f ≡ factor_of m → x ≡ of_int binary64 (level2_of (d 0)) → y ≡ of_int binary64 (level2_of (d 1))
      → point (mul binary64 x f) (mul binary64 y f) ≡ point_of m d
  point-qpsk e f g h = products m (level2_of (d 0)) (level2_of (d 1)) f g h ∙ known m d e

  pub point-qam : m ≡ 2 → f ≡ factor_of m → x ≡ of_int binary64 (level4_of (d 0) (d 1)) → y ≡ of_int binary64 (level4_of (d 2) (d 3))
      → point (mul binary64 x f) (mul binary64 y f) ≡ point_of m d
  point-qam e f g h = products m (level4_of (d 0) (d 1)) (level4_of (d 2) (d 3)) f g h ∙ known m d e

-- ---- the rows

module _ (m : ℕ) (bits : List ℕ) (defined : m ≤ 2) where
  pub item_refused : first_above 1 bits < length bits → refusal (Item (first_above 1 bits)) ≡ mapping_of m bits
  item_refused h = simp (le-ltb 2 m defined, lt-ltb (first_above 1 bits) (length bits) h)

  pub point-reported : length bits ≤ first_above 1 bits → done (point_of m (λ k. get_or bits k 0)) ≡ mapping_of m bits
  point-reported h = simp (le-ltb 2 m defined, le-ltb (first_above 1 bits) (length bits) h)
