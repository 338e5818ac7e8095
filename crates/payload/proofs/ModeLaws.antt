-- The layouts of the payload's modes, by one computed test over the modes and copy counts that are defined, and of a card that the payload
-- entries serve. Assumes nothing.
use mathlib.Core.Bool.{Bool, true, not, ◌&&◌, ◌||◌}
use mathlib.Core.Path.{◌≡◌, subst}
use Prim.Native.Nat.{ℕ, ◌*◌, ◌≤◌, ◌<◌}
use native.Mathlib.Omega.{arith}
use lib.Dec.{T, eqb, leb, leb→le}
use borrow.Author.Tests.{ne_eqb}
use Rattle.bits.specs.Lists.{lowest}
use Rattle.bits.specs.Ranges.{all_below}
use Rattle.bits.proofs.BoolLaws.{and_left, and_right}
use Rattle.bits.proofs.RangeLaws.{at_each, at-each₂}
use Rattle.card.specs.declared.Card.{Card}
use Rattle.card.specs.Card.{copy_count, copy_code}
use Rattle.card.specs.Modes.{defined_mode}
use Rattle.card.specs.Gate.{Served}
use Rattle.card.proofs.CopyLaws.{count-back}
use Rattle.card.proofs.ModeLaws.{defined-mode, defined-card}
use Rattle.bands.specs.Bands.{band_count, carriers}
use Rattle.interleaver_shape.specs.Shapes.{coded_bits}
use Rattle.interleaver_shape.proofs.ShapeLaws.{coded-some, coded-le}
use Rattle.payload_layout.specs.declared.Layout.{Layout}
use Rattle.payload_layout.specs.Layouts.{span_of, used_of, group_of, last_group_bits, pad_bits, layout_by, layout_for, layout_of, items, most_items}
use Rattle.payload_layout.specs.Loops.Bounds.{Laid}
use Rattle.payload_layout.proofs.LayoutLaws.{layout-coded, layout-copies, layout-laid}
use Rattle.payload.specs.Entries.{block_layout}

-- ---- by mode and copy count

abbrev mode_layout : ℕ → ℕ → ℕ → ℕ → ℕ → Layout
mode_layout band kind rate modulation copies = layout_of band modulation copies (coded_bits kind rate)

-- the pads of all copies are within the coded bits, and the items are few
fits : Layout → ℕ → Bool
fits L coded = leb (L.copies * L.pad) coded && leb (items L) most_items

-- so it is where a mode is defined and its kind is not 0
tested : ℕ → ℕ → ℕ → ℕ → ℕ → Bool
tested band kind rate modulation copies =
    not (defined_mode band kind rate modulation) || eqb kind 0 || fits (mode_layout band kind rate modulation copies) (coded_bits kind rate)

all_tested : T (all_below band_count (λ band. all_below 5 (λ kind. all_below 2 (λ rate. all_below 3 (λ modulation. all_below 6 (λ code. tested band kind rate modulation (copy_count code)))))))
unfolding tested fits defined_mode coded_bits items layout_of layout_for layout_by pad_bits last_group_bits group_of used_of span_of copy_code lowest carriers
all_tested = tt

module _ (band kind rate modulation copies : ℕ) (is : defined_mode band kind rate modulation ≡ true) (above : 0 < kind) (counts : copy_code copies < 6) where
  abbrev L : Layout
  L = mode_layout band kind rate modulation copies

  at-mode : T (fits L (coded_bits kind rate))
  unfolding tested
  at-mode =
      let (kinds, band-lt, modulation-lt) = defined-mode band kind rate modulation is in
      let at-kind =
      at-each₂ band_count 5 (λ band kind. all_below 2 (λ rate. all_below 3 (λ modulation. all_below 6 (λ code. tested band kind rate modulation (copy_count code))))) all_tested band kind band-lt kinds.kind-lt in
      let at-rate = at-each₂ 2 3 (λ rate modulation. all_below 6 (λ code. tested band kind rate modulation (copy_count code))) at-kind rate modulation kinds.rate-lt modulation-lt in
      let at_copies =
      subst (λ (c : ℕ). T (tested band kind rate modulation c)) (count-back copies counts) (at_each 6 (λ code. tested band kind rate modulation (copy_count code)) at-rate (copy_code copies) counts) in
      rw (is, ne_eqb kind 0 (λ z. omega arith)) at at_copies

  -- the pads of all copies are within the coded bits
  pub mode-pads : L.copies * L.pad ≤ coded_bits kind rate
  unfolding fits
  mode-pads = leb→le (L.copies * L.pad) (coded_bits kind rate) (and_left (leb (L.copies * L.pad) (coded_bits kind rate)) _ at-mode)

  pub mode-items : items L ≤ most_items
  unfolding fits
  mode-items = leb→le (items L) most_items (and_right (leb (L.copies * L.pad) (coded_bits kind rate)) _ at-mode)

-- ---- of a card that the payload entries serve

pub layout-bits : (c : Card) → (block_layout c).coded ≡ coded_bits c.kind c.rate
layout-bits c = layout-coded c.band c.modulation c.copies (coded_bits c.kind c.rate)

pub copies-as-said : (c : Card) → (block_layout c).copies ≡ c.copies
copies-as-said c = layout-copies c.band c.modulation c.copies (coded_bits c.kind c.rate)

module _ (c : Card) (S : Served 1 4 c) where
  is-defined : defined_mode c.band c.kind c.rate c.modulation ≡ true
  is-defined = (defined-card c S.mode).0

  pub layout-within : (block_layout c).copies * (block_layout c).pad ≤ coded_bits c.kind c.rate
  layout-within = mode-pads c.band c.kind c.rate c.modulation c.copies is-defined S.from_first S.copies

  -- all that the loops ask of the layout
  pub layout-served : Laid (block_layout c)
  layout-served =
      layout-laid c.band c.modulation c.copies (coded_bits c.kind c.rate) S.band-lt S.modulation-lt S.copies
      (coded-some c.kind c.rate S.kinds) (omega (arith, coded-le c.kind c.rate S.kinds)) layout-within

  pub layout-items : items (block_layout c) ≤ most_items
  layout-items = mode-items c.band c.kind c.rate c.modulation c.copies is-defined S.from_first S.copies
