-- The section's arithmetic gives sound layouts, for any number of carriers that has one for each interleaver, every number of bits a carrier
-- and of coded bits, once over the copy count. Assumes nothing.
use mathlib.Core.Path.{◌≡◌, refl, sym, ap, ◌∙◌, subst, subst₂}
use mathlib.Core.Bool.{Bool, true, false, cond}
use Prim.Native.Nat.{ℕ, zero, suc, ◌+◌, ◌-◌, ◌*◌, ◌/◌, ◌%◌, ◌<◌, ◌≤◌}
use native.Mathlib.Nat.{mul-pos, mul_assoc, mul_comm, mul_left_comm, mul-div_cancel, mul-div_cancel_left, mul-div-le, add-mul, suc-mul, one-mul, zero-mul, mod-lt, div-one, div-add-mod', le-div_iff_mul-le}
use native.Mathlib.Omega.{arith}
use lib.Dec.{eqb, leb, ltb, ltb→lt}
use lib.ListN.{get_or}
use borrow.Author.Tests.{eqb-true, eqb-false, eq-eqb}
use Rattle.bits.specs.Lists.{lowest}
use Rattle.bits.proofs.NumberLaws.{lt-cases}
use Rattle.bits.proofs.RangeLaws.{agree, under, at_each}
use Rattle.card.specs.Card.{copy_count, copy_code}
use Rattle.card.proofs.CopyLaws.{count-back}
use Rattle.payload_layout.specs.declared.Layout.{Layout}
use Rattle.payload_layout.specs.Layouts.{inter_num, inter_num_per_group, all_interleavers, group_interleavers, span_of, used_of, group_of, last_group_bits, pad_bits, shift_run, shift_step, layout_by, layout_for, group_carriers, copy_carriers}
use Rattle.payload_layout.specs.Loops.Bounds.{Sound}

-- ---- Table 13

module _ (copies : ℕ) (is : copy_code copies < 6) where
  pub copies-pos : zero < copies
  copies-pos = subst (λ (c : ℕ). zero < c) (count-back copies is) (ltb→lt 0 (copy_count (copy_code copies)) (at_each 6 (λ code. ltb 0 (copy_count code)) tt (copy_code copies) is))

  pub copies-le : copies ≤ 11
  copies-le = omega (arith, count-back copies is, under 6 12 copy_count tt (copy_code copies) is)

  pub per-group-pos : zero < group_interleavers copies
  per-group-pos = ltb→lt 0 (group_interleavers copies) (at_each 6 (λ code. ltb 0 (get_or inter_num_per_group code 0)) tt (copy_code copies) is)

  -- each copy has interleavers of its own
  pub interleavers-are : all_interleavers copies ≡ copies * group_interleavers copies
  interleavers-are =
      agree 6 (λ code. get_or inter_num code 0) (λ code. copy_count code * get_or inter_num_per_group code 0) tt (copy_code copies) is
      ∙ ap (λ (c : ℕ). c * group_interleavers copies) (count-back copies is)

  pub interleavers-pos : zero < all_interleavers copies
  interleavers-pos = rw interleavers-are (mul-pos copies-pos per-group-pos)

-- one copy is not interleaved
pub one-interleaver : all_interleavers 1 ≡ 1
unfolding copy_code lowest
one-interleaver = refl

pub one-a-group : group_interleavers 1 ≡ 1
unfolding copy_code lowest
one-a-group = refl

-- ---- the pad fills up a group

abbrev Filled : ℕ → ℕ → ℕ → Type 0
Filled O G D = (x : ℕ) × (D + pad_bits O G D ≡ x * G)

module _ (G copies D : ℕ) (pos : zero < G) where
  whole : D ≡ D / (copies * G) * copies * G + D % (copies * G)
  whole = omega (arith, div-add-mod' D (copies * G), mul_assoc (D / (copies * G)) copies G)

  filled : Filled (copies * G) G D
  unfolding pad_bits last_group_bits
  filled = go (eqb (D % (copies * G)) 0) refl
    where
      go : (t : Bool) → eqb (D % (copies * G)) 0 ≡ t → (x : ℕ) × (D + (G - cond t G (D % (copies * G) - G * ((D % (copies * G) - 1) / G))) ≡ x * G)
      go true e = (D / (copies * G) * copies, omega (arith, whole, eqb-true (D % (copies * G)) 0 e))
      go false e =
          let r : ℕ = D % (copies * G) in
          let some : zero < r = lt-cases zero r (λ l. l) (λ l. absurd (eqb-false r 0 e (omega arith))) in
          let t = (r - 1) / G in
          let m : (r - 1) % G < G = mod-lt (r - 1) pos in
          (D / (copies * G) * copies + suc t, omega (arith, whole, div-add-mod' (r - 1) G, mul_comm G t, add-mul (D / (copies * G) * copies) (suc t) G, suc-mul t G))

-- ---- sound layouts

cond_pos : (t : Bool) (a b : ℕ) → zero < a → zero < b → zero < cond t a b
cond_pos true a b h l = h
cond_pos false a b h l = l

pub run-pos : (copies last G : ℕ) → zero < copies → zero < shift_run copies last G
unfolding shift_run
run-pos copies last G h =
    cond_pos (eqb copies 4) _ _
    (cond_pos (leb last G) _ _ (omega arith)
    (cond_pos (leb last (2 * G)) _ _ (omega arith) (cond_pos (leb last (3 * G)) _ _ (omega arith) (omega arith))))
    (cond_pos (leb last ((copies - 1) * G)) _ _ h (omega arith))

module _ (carriers copies : ℕ) (is : copy_code copies < 6) (enough : all_interleavers copies ≤ carriers) where
  pub span_pos : zero < span_of carriers copies
  unfolding span_of
  span_pos = (le-div_iff_mul-le (interleavers-pos copies is)).1 (rw one-mul enough)

  pub used-is : used_of carriers copies ≡ copies * (group_interleavers copies * span_of carriers copies)
  unfolding used_of
  used-is =
      ap (λ (k : ℕ). k * span_of carriers copies) (interleavers-are copies is) ∙ mul_assoc copies (group_interleavers copies) (span_of carriers copies)

  pub used_le : used_of carriers copies ≤ carriers
  unfolding used_of span_of
  used_le = mul-div-le carriers (all_interleavers copies)

  pub group-is : group_of carriers copies ≡ group_interleavers copies * span_of carriers copies
  unfolding group_of
  group-is =
      ap (λ (k : ℕ). k / copies) used-is ∙ mul-div_cancel_left (group_interleavers copies * span_of carriers copies) (copies-pos copies is)

  pub group-pos : zero < group_of carriers copies
  group-pos = rw group-is (mul-pos (per-group-pos copies is) span_pos)

  module _ (bits coded : ℕ) (bits_pos : zero < bits) (coded-pos : zero < coded) where
    abbrev G : ℕ
    G = bits * (group_interleavers copies * span_of carriers copies)

    G-pos : zero < G
    G-pos = mul-pos bits_pos (mul-pos (per-group-pos copies is) span_pos)

    abbrev layout : Layout
    layout = layout_by carriers bits copies coded (copies * G) G

    full_by : copy_carriers layout * bits ≡ coded + layout.pad
    unfolding layout_by pad_bits span_of
    full_by =
        let (x, e) = filled G copies coded G-pos in
        let q : (coded + pad_bits (copies * G) G coded) / G ≡ x = ap (λ (k : ℕ). k / G) e ∙ mul-div_cancel x G-pos in
        let group = group_interleavers copies * span_of carriers copies in
        ap (λ (k : ℕ). k * group * bits) q ∙ mul_assoc x group bits ∙ ap (λ (k : ℕ). x * k) (mul_comm group bits) ∙ sym e

    sound-by : Sound layout
    unfolding layout_by pad_bits shift_step span_of
    sound-by =
        let group = group_interleavers copies * span_of carriers copies in
        record {
          bits_pos = bits_pos;
          copies-pos = copies-pos copies is;
          run-pos = run-pos copies _ _ (copies-pos copies is);
          symbols-pos = some layout.symbols full_by;
          interleavers-pos = per-group-pos copies is;
          span_pos = span_pos;
          there = omega (arith, used-is, used_le);
          full = full_by;
          pad-in = omega (arith, mul_comm group bits);
          one-copy = λ o. (
            ap group_interleavers o ∙ one-a-group,
            ap (λ (c : ℕ). carriers / all_interleavers c) o ∙ ap (λ (k : ℕ). carriers / k) one-interleaver ∙ div-one carriers,
            rw (eq-eqb copies 1 o),
          );
        }
      where
        some : (x : ℕ) → x * group_carriers layout * bits ≡ coded + layout.pad → zero < x
        some zero e = absurd (omega (arith, ap (λ (k : ℕ). k * bits) (zero-mul (group_carriers layout)), zero-mul bits))
        some (suc x) e = omega arith

    pub sound : Sound (layout_for carriers bits copies coded)
    unfolding layout_for
    sound =
        subst₂ (λ (O G : ℕ). Sound (layout_by carriers bits copies coded O G))
        (sym (ap (λ (k : ℕ). bits * k) used-is ∙ mul_left_comm bits copies (group_interleavers copies * span_of carriers copies)))
        (sym (ap (λ (k : ℕ). bits * k) group-is)) sound-by
