-- Mapped points slice back to their bits, one carrier and a whole list of items. The labels' own points are one computed test. Assumes nothing.
use Prim.Native.Nat.{ℕ, zero, suc, ◌+◌, ◌*◌, ◌/◌, ◌%◌, ◌≤◌, ◌<◌}
use native.Mathlib.Nat.{div-add-mod', div-lt_iff_lt-mul, le_of_eq, le_of_suc-le-suc, le_trans, mul_comm, mod-lt}
use native.Mathlib.Omega.{arith}
use mathlib.Core.Path.{◌≡◌, sym, ap, ap₂, ◌∙◌}
use mathlib.Core.List.{List, [], ◌∷◌}
use borrow.Author.Tests.{ltb-false, le-ltb}
use lib.Arith.{digits_lt}
use lib.Dec.{ltb, ltb→lt}
use lib.Ieee.{add, sub, mul, of_int, lt, le}
use lib.ListN.{length, get_or, take}
use lib.Seq.{length-take-le, get_or-take}
use Rattle.bits.specs.Lists.{tabulate, first_above}
use Rattle.bits.proofs.BoolLaws.{test-cases}
use Rattle.bits.proofs.BitLaws.{Binary}
use Rattle.bits.proofs.ListLaws.{get_or-tabulate, tabulate-ext, tabulate-list, first-none, none_above}
use Rattle.bits.proofs.RangeLaws.{at_each, agree₂}
use Rattle.refusal.specs.Report.{done, refused}
use Rattle.card.specs.Modes.{carrier_bits}
use Rattle.constellation.specs.declared.Point.{Point}
use Rattle.constellation.specs.Mapping.{level2_of, level4_of, coordinate, point_of, mapping}
use Rattle.constellation.proofs.MappingLaws.{carrier-bits-le, point-reported}
use Rattle.slicing.specs.Slicing.{axis2_of, axis4_of, items_of, slicing}
use Rattle.slicing.specs.Carriers.{heard, carrier_point, through_points}

-- ---- an axis

axis2-back : (m d : ℕ) → m < 2 → d < 2 → axis2_of m (coordinate m (level2_of d)) ≡ d
unfolding axis2_of mul of_int lt le
axis2-back = agree₂ 2 2 (λ m d. axis2_of m (coordinate m (level2_of d))) (λ m d. d) tt

first_back : (a b : ℕ) → a < 2 → b < 2 → (axis4_of (coordinate 2 (level4_of a b))).first ≡ a
unfolding axis4_of add sub mul of_int lt le
first_back = agree₂ 2 2 (λ a b. (axis4_of (coordinate 2 (level4_of a b))).first) (λ a b. a) tt

second_back : (a b : ℕ) → a < 2 → b < 2 → (axis4_of (coordinate 2 (level4_of a b))).second ≡ b
unfolding axis4_of add sub mul of_int lt le
second_back = agree₂ 2 2 (λ a b. (axis4_of (coordinate 2 (level4_of a b))).second) (λ a b. b) tt

-- ---- a carrier

-- the point of some bits slices back to them, at every modulation
pub point-back : (m : ℕ) (d : ℕ → ℕ) → m < 3 → Binary (carrier_bits m) d → items_of m (heard (point_of m d)) ≡ tabulate (carrier_bits m) d
unfolding point_of tabulate
point-back zero d h b = ap (λ (x : ℕ). x ∷ []) (axis2-back 0 (d 0) (omega arith) (b 0 (omega arith)))
point-back (suc zero) d h b =
    ap₂ (λ (x y : ℕ). x ∷ y ∷ []) (axis2-back 1 (d 0) (omega arith) (b 0 (omega arith))) (axis2-back 1 (d 1) (omega arith) (b 1 (omega arith)))
point-back (suc (suc zero)) d h b =
    let b0 = b 0 (omega arith) in
    let b1 = b 1 (omega arith) in
    let b2 = b 2 (omega arith) in
    let b3 = b 3 (omega arith) in
    λ i. first_back (d 0) (d 1) b0 b1 i ∷ second_back (d 0) (d 1) b0 b1 i ∷ first_back (d 2) (d 3) b2 b3 i ∷ second_back (d 2) (d 3) b2 b3 i ∷ []
point-back (suc (suc (suc m))) d h b = absurd (omega arith)

-- ---- the entries

no : {C : Type 0} {n v w : ℕ} {p : Point} → refused n v w ≡ done p → C
no e = let z : ◌≡◌ {A = ℕ} 0 1 = cc in absurd (omega arith)

-- where mapping gives a point, slicing that point gives the bits that were mapped
pub sliced-back : (m : ℕ) (bits : List ℕ) (p : Point) → 4 ≤ length bits → mapping m bits ≡ done p
    → slicing m (heard p) ≡ done (take (carrier_bits m) bits)
sliced-back m bits p h e =
    test-cases (ltb 2 m) (λ t. no (simp t at e)) λ t.
    test-cases (ltb (first_above 1 used) (length used)) (λ u. no (simp (t, u) at e)) λ u.
    back (ltb-false 2 m t) (ltb-false (first_above 1 used) (length used) u) (simp (t, u) at e)
  where
    used : List ℕ
    used = take (carrier_bits m) bits

    back : m ≤ 2 → length used ≤ first_above 1 used → done (point_of m (λ k. get_or used k 0)) ≡ done p → slicing m (heard p) ≡ done used
    back l f g =
        let q : point_of m (λ k. get_or used k 0) ≡ p = cc in
        let n : length used ≡ carrier_bits m = length-take-le (carrier_bits m) bits (le_trans (carrier-bits-le m l) h) in
        let legal : Binary (carrier_bits m) (λ k. get_or used k 0) = λ k b. let a : get_or used k 0 ≤ 1 = none_above 1 used f k (omega arith) in omega arith in
        simp (le-ltb 2 m l)
        (ap done
        (ap (λ (x : Point). items_of m (heard x)) (sym q) ∙ point-back m (λ k. get_or used k 0) (omega arith) legal
        ∙ ap (λ (c : ℕ). tabulate c (λ k. get_or used k 0)) (sym n) ∙ tabulate-list 0 used))

-- legal bits are mapped, so mapping and slicing give them back
pub map-slice : (m : ℕ) (bits : List ℕ) → m < 3 → 4 ≤ length bits → Binary (carrier_bits m) (λ k. get_or bits k 0)
    → (p : Point) × (mapping m bits ≡ done p) × (slicing m (heard p) ≡ done (take (carrier_bits m) bits))
map-slice m bits h l b = (point_of m (λ k. get_or used k 0), reported, sliced-back m bits (point_of m (λ k. get_or used k 0)) l reported)
  where
    used : List ℕ
    used = take (carrier_bits m) bits

    legal : (k : ℕ) → k < length used → get_or used k 0 ≤ 1
    legal k g =
        let n : length used ≡ carrier_bits m = length-take-le (carrier_bits m) bits (le_trans (carrier-bits-le m (le_of_suc-le-suc h)) l) in
        let c : k < carrier_bits m = omega arith in
        let v : get_or bits k 0 < 2 = b k c in
        rw (get_or-take (carrier_bits m) bits k 0 c) (le_of_suc-le-suc v)

    reported : mapping m bits ≡ done (point_of m (λ k. get_or used k 0))
    reported = sym (point-reported m used (le_of_suc-le-suc h) (le_of_eq (first-none 1 used legal)))

-- ---- a list of items

bits_pos : (m : ℕ) → m < 3 → 0 < carrier_bits m
bits_pos m h = ltb→lt 0 (carrier_bits m) (at_each 3 (λ k. ltb 0 (carrier_bits k)) tt m h)

-- item j of carrier c is within the items of all carriers
inside : (n c j carriers : ℕ) → c < carriers → j < n → n * c + j < n * carriers
inside n c j carriers h l = rw (mul_comm n c, mul_comm n carriers) (digits_lt h l)

-- item j of carrier c comes back
pub carrier-back : (m : ℕ) (d : ℕ → ℕ) (c j : ℕ) → m < 3 → j < carrier_bits m → Binary (carrier_bits m) (λ k. d (carrier_bits m * c + k))
    → get_or (items_of m (heard (carrier_point m d c))) j 2 ≡ d (carrier_bits m * c + j)
unfolding carrier_point
carrier-back m d c j h l b =
    ap (λ (xs : List ℕ). get_or xs j 2) (point-back m (λ k. d (carrier_bits m * c + k)) h b)
    ∙ get_or-tabulate (carrier_bits m) (λ k. d (carrier_bits m * c + k)) j 2 l

-- every item of some whole carriers comes back
pub items_back : (m : ℕ) (d : ℕ → ℕ) (carriers : ℕ) → m < 3 → Binary (carrier_bits m * carriers) d
    → (k : ℕ) → k < carrier_bits m * carriers → through_points m d k ≡ d k
unfolding through_points
items_back m d carriers h b k l =
    let n = carrier_bits m in
    let c : k / n < carriers = (div-lt_iff_lt-mul (bits_pos m h)).1 (rw (mul_comm n carriers) at l) in
    let whole : n * (k / n) + k % n ≡ k = rw (mul_comm n (k / n)) (div-add-mod' k n) in
    carrier-back m d (k / n) (k % n) h (mod-lt k (bits_pos m h)) (λ j g. b (n * (k / n) + j) (inside n (k / n) j carriers c g)) ∙ ap d whole

-- a list of items of some whole carriers, each 0 or 1, is the same list after it was mapped and sliced
pub list_back : (m : ℕ) (xs : List ℕ) (carriers : ℕ) → m < 3 → length xs ≡ carrier_bits m * carriers → Binary (length xs) (λ k. get_or xs k 0)
    → tabulate (length xs) (through_points m (λ k. get_or xs k 0)) ≡ xs
list_back m xs carriers h e b =
    tabulate-ext (length xs) _ (λ k. get_or xs k 0) (λ k l. items_back m (λ k. get_or xs k 0) carriers h (λ j g. b j (omega arith)) k (omega arith))
    ∙ tabulate-list 0 xs
