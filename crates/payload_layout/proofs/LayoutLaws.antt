-- What the layouts of bands, modulations and copy counts have: all that the loops ask, where the pads are within the data. Assumes nothing.
use mathlib.Core.Path.{◌≡◌, refl, sym, ap, ◌∙◌, subst}
use mathlib.Core.Bool.{Bool, ◌&&◌, ◌||◌}
use mathlib.Core.Logic.{inl, inr}
use Prim.Native.Nat.{ℕ, zero, suc, ◌+◌, ◌*◌, ◌<◌, ◌≤◌}
use native.Mathlib.Nat.{mul_assoc, mul_comm, mul-le-mul, mul-le-mul_left, mul-le-mul_right, mul_left_comm, le-mul_of_pos_right}
use native.Mathlib.Omega.{arith}
use lib.Dec.{T, eqb, leb, leb→le}
use borrow.Author.Tests.{ne_eqb}
use Rattle.bits.specs.Lists.{lowest}
use Rattle.bits.specs.Ranges.{all_below}
use Rattle.bits.proofs.BoolLaws.{and_left, and_right}
use Rattle.bits.proofs.RangeLaws.{at-each₂, under}
use Rattle.card.specs.Card.{copy_count, copy_code}
use Rattle.card.specs.Modes.{carrier_bits}
use Rattle.card.proofs.CopyLaws.{count-back}
use Rattle.bands.specs.Bands.{band_count, carriers}
use Rattle.payload_layout.specs.declared.Layout.{Layout}
use Rattle.payload_layout.specs.Layouts.{all_interleavers, group_interleavers, span_of, shift_step, layout_by, layout_for, layout_of, items, group_carriers, copy_carriers}
use Rattle.payload_layout.specs.Loops.Bounds.{CarrierBits, Sound, Small, Laid}
use Rattle.payload_layout.proofs.SectionLaws.{copies-le, sound}

pub layout-coded : (band modulation copies coded : ℕ) → (layout_of band modulation copies coded).coded ≡ coded
unfolding layout_of layout_for layout_by
layout-coded band modulation copies coded = refl

pub layout-copies : (band modulation copies coded : ℕ) → (layout_of band modulation copies coded).copies ≡ copies
unfolding layout_of layout_for layout_by
layout-copies band modulation copies coded = refl

-- ---- by one computed test over bands and copy counts

-- the carriers of a group
abbrev group : ℕ → ℕ → ℕ
group band copies = group_interleavers copies * span_of (carriers band) copies

-- a carrier for each interleaver; a group is no less than a thirteenth of a symbol; the step is small; and of more than one copy a group is
-- small, and an address has room
room_test : ℕ → ℕ → Bool
room_test band copies =
    leb (all_interleavers copies) (carriers band)
    && (leb (carriers band) (13 * group band copies)
    && (leb (shift_step (carriers band) copies) 2 && (eqb copies 1 || (leb (4 * group band copies) 816 && leb (copies * group band copies) 410))))

rooms : T (all_below band_count (λ band. all_below 6 (λ code. room_test band (copy_count code))))
unfolding room_test carriers copy_code lowest span_of shift_step
rooms = tt

pub bits_of : (modulation : ℕ) → modulation < 3 → CarrierBits (carrier_bits modulation)
bits_of zero h = inl refl
bits_of (suc zero) h = inr (inl refl)
bits_of (suc (suc zero)) h = inr (inr refl)
bits_of (suc (suc (suc m))) h = absurd (omega arith)

pub bits-least : (b : ℕ) → CarrierBits b → 1 ≤ b
bits-least b (inl e) = omega arith
bits-least b (inr (inl e)) = omega arith
bits-least b (inr (inr e)) = omega arith

pub bits_most : (b : ℕ) → CarrierBits b → b ≤ 4
bits_most b (inl e) = omega arith
bits_most b (inr (inl e)) = omega arith
bits_most b (inr (inr e)) = omega arith

module _ (band copies : ℕ) (band-lt : band < band_count) (is : copy_code copies < 6) where
  room : T (room_test band copies)
  room = subst (λ (c : ℕ). T (room_test band c)) (count-back copies is) (at-each₂ band_count 6 (λ b code. room_test b (copy_count code)) rooms band (copy_code copies) band-lt is)

  behind-first : T (leb (carriers band) (13 * group band copies)
      && (leb (shift_step (carriers band) copies) 2 && (eqb copies 1 || (leb (4 * group band copies) 816 && leb (copies * group band copies) 410))))
  unfolding room_test
  behind-first = and_right (leb (all_interleavers copies) (carriers band)) _ room

  pub enough : all_interleavers copies ≤ carriers band
  unfolding room_test
  enough = leb→le (all_interleavers copies) (carriers band) (and_left (leb (all_interleavers copies) (carriers band)) _ room)

  thirteenth : carriers band ≤ 13 * group band copies
  thirteenth = leb→le (carriers band) (13 * group band copies) (and_left (leb (carriers band) (13 * group band copies)) _ behind-first)

  behind-second : T (leb (shift_step (carriers band) copies) 2 && (eqb copies 1 || (leb (4 * group band copies) 816 && leb (copies * group band copies) 410)))
  behind-second = and_right (leb (carriers band) (13 * group band copies)) _ behind-first

  step_small : shift_step (carriers band) copies ≤ 2
  step_small = leb→le (shift_step (carriers band) copies) 2 (and_left (leb (shift_step (carriers band) copies) 2) _ behind-second)

  copied-room : 1 < copies → (4 * group band copies ≤ 816) × (copies * group band copies ≤ 410)
  copied-room more =
      let t = rw (ne_eqb copies 1 (λ e. omega arith)) at (and_right (leb (shift_step (carriers band) copies) 2) _ behind-second) in (
        leb→le (4 * group band copies) 816 (and_left (leb (4 * group band copies) 816) _ t),
        leb→le (copies * group band copies) 410 (and_right (leb (4 * group band copies) 816) _ t),
      )

-- a band's carriers are few
pub carriers-le : (band : ℕ) → band < band_count → carriers band ≤ 411
unfolding carriers
carriers-le band h = omega (arith, under band_count 412 carriers tt band h)

-- ---- the layout

-- each group of a layout fills a thirteenth of its symbol, so the items are few
items-few : (L : Layout) → Sound L → L.carriers ≤ 13 * group_carriers L → items L ≤ 13 * (L.coded + L.pad)
unfolding items
items-few L s wide =
    let step : L.symbols * (L.carriers * L.bits) ≤ L.symbols * (13 * group_carriers L * L.bits) =
    mul-le-mul_left L.symbols (mul-le-mul_right L.bits wide) in
    let turn : L.symbols * (13 * group_carriers L * L.bits) ≡ 13 * (copy_carriers L * L.bits) =
    ap (λ (k : ℕ). L.symbols * k) (mul_assoc 13 (group_carriers L) L.bits)
    ∙ mul_left_comm L.symbols 13 (group_carriers L * L.bits)
    ∙ ap (λ (k : ℕ). 13 * k) (sym (mul_assoc L.symbols (group_carriers L) L.bits)) in
    omega (arith, s.full)

module _ (band modulation copies coded : ℕ) (band-lt : band < band_count) (modulation-lt : modulation < 3) (is : copy_code copies < 6) (some : 0 < coded) (few : coded < 65536) where
  abbrev L : Layout
  L = layout_of band modulation copies coded

  bits_are : CarrierBits (carrier_bits modulation)
  bits_are = bits_of modulation modulation-lt

  pub layout-sound : Sound L
  unfolding layout_of
  layout-sound = sound (carriers band) copies is (enough band copies band-lt is) (carrier_bits modulation) coded (bits-least _ bits_are) some

  pub layout-small : Small L
  unfolding layout_of layout_for layout_by
  layout-small =
      let s = layout-sound in
      let b = bits_most _ bits_are in
      let g = group band copies in
      record {
        bits_are = bits_are;
        coded_in = few;
        items-in = omega (
          arith,
          items-few L s (thirteenth band copies band-lt is),
          s.pad-in,
          mul-le-mul {n₁ = group_carriers L} {m₁ = L.bits} {n₂ = 411} {m₂ = 4} (omega (arith, group-below s, carriers-le band band-lt)) b,
        );
        copies-in = copies-le copies is;
        step_in = step_small band copies band-lt is;
        group-in = λ more. omega (
          arith,
          mul-le-mul {n₁ = group_carriers L} {m₁ = L.bits} {n₂ = group_carriers L} {m₂ = 4} (omega arith) b,
          mul_comm g 4,
          (copied-room band copies band-lt is more).0,
        );
        used-in = λ more. (copied-room band copies band-lt is more).1;
      }
    where
      group-below : Sound L → group_carriers L ≤ L.carriers
      group-below s =
          omega (arith, s.there, le-mul_of_pos_right {m = L.copies} (group_carriers L) s.copies-pos, mul_comm (group_carriers L) L.copies)

  -- pads within the data are all that is left to ask
  pub layout-laid : L.copies * L.pad ≤ coded → Laid L
  unfolding layout_of layout_for layout_by
  layout-laid h = record { sound = layout-sound; small = layout-small; within = h }
