-- The two units: a sub-carrier's place leads back to it, and a place's sub-carrier to the place. Assumes nothing.
use mathlib.Core.Path.{◌≡◌, refl, sym, ap}
use mathlib.Core.Bool.{Bool, true, false, cond, ◌||◌}
use Prim.Native.Nat.{ℕ, ◌+◌, ◌-◌, ◌≤◌, ◌<◌}
use native.Mathlib.Omega.{arith}
use lib.Dec.{leb, ltb}
use borrow.Author.Tests.{leb-false, ltb-false, lt-leb, le-ltb}
use Rattle.bits.proofs.BoolLaws.{neither}
use Rattle.refusal.specs.Report.{done, refused}
use Rattle.bands.specs.Bands.{band_count, first_sub_carrier, last_sub_carrier, carriers}
use Rattle.bands.specs.Units.{place_of, sub_carrier_of}
use Rattle.bands.proofs.BandLaws.{carriers-between}

-- ---- what a conversion that is done says

pub record Placed (band s p : ℕ) : Type 0 where
  pub defined : band < band_count
  pub from : first_sub_carrier band ≤ s
  pub to : s ≤ last_sub_carrier band
  pub place : s ≡ first_sub_carrier band + p

-- the answer of two rows
chosen : (t u : Bool) (n v p : ℕ) → cond t (refused 3 0 0) (cond u (refused 4 v 0) (done n)) ≡ done p → (t ≡ false) × (u ≡ false) × (n ≡ p)
chosen false false n v p e = (refl, refl, cc)
chosen false true n v p e = let z : ◌≡◌ {A = ℕ} 0 1 = cc in absurd (omega arith)
chosen true u n v p e = let z : ◌≡◌ {A = ℕ} 0 1 = cc in absurd (omega arith)

placed-place : (band s p : ℕ) → place_of band s ≡ done p → Placed band s p
unfolding place_of
placed-place band s p e =
    let (t, u, n) = chosen (leb band_count band) (ltb s (first_sub_carrier band) || ltb (last_sub_carrier band) s) (s - first_sub_carrier band) s p e in
    let (low, high) = neither (ltb s (first_sub_carrier band)) (ltb (last_sub_carrier band) s) u in
    let from : first_sub_carrier band ≤ s = ltb-false s (first_sub_carrier band) low in
    record { defined = leb-false band_count band t; from = from; to = ltb-false (last_sub_carrier band) s high; place = omega arith }

pub place-placed : (band s p : ℕ) → Placed band s p → place_of band s ≡ done p
unfolding place_of
place-placed band s p h =
    rw (lt-leb band_count band h.defined, le-ltb s (first_sub_carrier band) h.from, le-ltb (last_sub_carrier band) s h.to) (ap done (omega arith))

placed-sub : (band s p : ℕ) → sub_carrier_of band p ≡ done s → Placed band s p
unfolding sub_carrier_of
placed-sub band s p e =
    let (t, u, n) = chosen (leb band_count band) (leb (carriers band) p) (first_sub_carrier band + p) p s e in
    let defined : band < band_count = leb-false band_count band t in
    let below : p < carriers band = leb-false (carriers band) p u in
    record { defined = defined; from = omega arith; to = omega (arith, carriers-between band defined); place = sym n }

sub-placed : (band s p : ℕ) → Placed band s p → sub_carrier_of band p ≡ done s
unfolding sub_carrier_of
sub-placed band s p h =
    rw (lt-leb band_count band h.defined, lt-leb (carriers band) p (omega (arith, carriers-between band h.defined))) (ap done (omega arith))

-- ---- there and back

pub sub-carrier-back : (band s p : ℕ) → place_of band s ≡ done p → sub_carrier_of band p ≡ done s
sub-carrier-back band s p e = sub-placed band s p (placed-place band s p e)

pub place-back : (band s p : ℕ) → sub_carrier_of band p ≡ done s → place_of band s ≡ done p
place-back band s p e = place-placed band s p (placed-sub band s p e)
