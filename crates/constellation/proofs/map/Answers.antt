-- `constellation::map` meets its contract: the rows' tests are those of the code. Assumes nothing.
use borrow.Author.Tests.{lt-ltb}
use mathlib.Core.List.{List, [], ◌∷◌}
use mathlib.Core.Path.{◌≡◌, sym, ap, ◌∙◌}
use Prim.Native.Nat.{ℕ, ◌≤◌, ◌<◌}
use native.Mathlib.Omega.{arith}
use lib.ListN.{length, get_or, take}
use lib.Seq.{length-take-le}
use Rattle.bits.specs.Lists.{first_above}
use Rattle.refusal.specs.Report.{done, refused}
use Rattle.card.specs.Modes.{carrier_bits}
use Rattle.constellation.specs.Mapping.{point_of}
use Rattle.bits.proofs.ListLaws.{none_above}
use Rattle.constellation.proofs.MappingLaws.{carrier-bits-le, item_refused, point-reported}
use Rattle.constellation.proofs.map.Goals as goal
use Rattle.constellation.proofs.map.Goals.{Start}

-- the four bits, and those that the modulation uses
abbrev all : Start → List ℕ
all s = s.args.d0 ∷ s.args.d1 ∷ s.args.d2 ∷ s.args.d3 ∷ []

abbrev used : Start → List ℕ
used s = take (carrier_bits s.args.modulation) (all s)

-- where the count n is that of the modulation, and bad the lowest bit above 1
module _ (s : Start) (n : ℕ) (known : s.args.modulation ≤ 2) (counted : n ≡ carrier_bits s.args.modulation) where
  few : n ≤ 4
  few = rw counted (carrier-bits-le _ known)

  count : n ≡ length (take n (all s))
  count = sym (length-take-le _ (all s) few)

  taken : take n (all s) ≡ used s
  taken = ap (λ (n : ℕ). take n (all s)) counted

  length-used : length (used s) ≡ n
  length-used = ap length (sym taken) ∙ sym count

  lowest : (bad : ℕ) → bad ≡ first_above 1 (take n (all s)) → bad ≡ first_above 1 (used s)
  lowest bad found = found ∙ ap (first_above 1) taken

  -- past the second branch no bit is above 1
  none : length (take n (all s)) ≤ first_above 1 (take n (all s)) → length (used s) ≤ first_above 1 (used s)
  none h = rw taken at h

pub returns-then-modulation-gt2 : goal.returns-then-modulation-gt2
returns-then-modulation-gt2 c = simp (lt-ltb _ _ c.if-modulation-gt2.true)

pub slice_bounds-all-end : goal.slice_bounds-all-end
slice_bounds-all-end c = few (goal.at.slice_bounds-all-end c).Start _ c.if-modulation-gt2.false c.carrier_bits-n.ensures

pub slice_bounds-all-end-2 : goal.slice_bounds-all-end-2
slice_bounds-all-end-2 c = few (goal.at.slice_bounds-all-end-2 c).Start _ c.if-modulation-gt2.false c.carrier_bits-n.ensures

pub slice_bounds-first_above-end : goal.slice_bounds-first_above-end
slice_bounds-first_above-end c = count (goal.at.slice_bounds-first_above-end c).Start _ c.if-modulation-gt2.false c.carrier_bits-n.ensures

pub slice_bounds-point_of-end : goal.slice_bounds-point_of-end
slice_bounds-point_of-end c = count (goal.at.slice_bounds-point_of-end c).Start _ c.if-modulation-gt2.false c.carrier_bits-n.ensures

pub returns-in-Some : goal.returns-in-Some
returns-in-Some c =
    let s = (goal.at.returns-in-Some c).Start in
    let e : c.in-Some.bad ≡ first_above 1 (used s)
    = lowest s _ c.if-modulation-gt2.false c.carrier_bits-n.ensures _ c.in-Some.ensures.0 in
    let h : first_above 1 (used s) < length (used s)
    = omega (arith, ap length (taken s _ c.if-modulation-gt2.false c.carrier_bits-n.ensures), e, c.in-Some.ensures.1) in
    ap (λ (k : ℕ). refused 6 k 0) e ∙ item_refused s.args.modulation (used s) c.if-modulation-gt2.false h

pub point_of-requires : goal.point_of-requires
point_of-requires c =
    let s = (goal.at.point_of-requires c).Start in
    let known = c.if-modulation-gt2.false in
    let counted = c.carrier_bits-n.ensures in
    let least = none s _ known counted c.in_default.ensures in
    rw (taken s _ known counted)
    (omega arith, length-used s _ known counted ∙ counted, λ k h. let b : get_or (used s) k 0 ≤ 1 = none_above 1 (used s) least k h in omega arith)

pub returns : goal.returns
returns c =
    let s = (goal.at.returns c).Start in
    let known = c.if-modulation-gt2.false in
    let counted = c.carrier_bits-n.ensures in
    let least = none s _ known counted c.in_default.ensures in
    ap done (c.point_of.ensures ∙ ap (λ (l : List ℕ). point_of s.args.modulation (λ k. get_or l k 0)) (taken s _ known counted))
    ∙ point-reported s.args.modulation (used s) known least
