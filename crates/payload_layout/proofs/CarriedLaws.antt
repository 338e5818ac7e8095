-- What items carry: of one copy the coded bits in order, and from 0 on again, on every carrier; of every layout a coded bit where they are
-- used. Assumes nothing.
use mathlib.Core.Path.{◌≡◌, sym, ap, ap₂, ◌∙◌}
use mathlib.Core.Bool.{true, false, cond}
use Prim.Native.Nat.{ℕ, zero, ◌+◌, ◌-◌, ◌*◌, ◌/◌, ◌%◌, ◌<◌, ◌≤◌}
use native.Mathlib.Nat.{one-mul, zero-mul, zero-div, mod-lt, mod-eq_of_lt, div-eq_of_lt, div-add-mod', div-lt_iff_lt-mul, mul_assoc, mul_left_comm, mul-pos}
use native.Mathlib.Omega.{arith}
use lib.Arith.{digits_lt}
use lib.Dec.{ltb}
use borrow.Author.Tests.{lt-ltb, le-ltb, ltb-true}
use Rattle.bits.proofs.NumberLaws.{lt-cases}
use Rattle.address_interleaver.specs.Addresses.{circshift, out_addr}
use Rattle.address_interleaver.proofs.RoundLaws.{unshifted}
use Rattle.address_interleaver.proofs.AddressLaws.{out-still}
use Rattle.payload_layout.specs.declared.Layout.{Layout}
use Rattle.payload_layout.specs.Layouts.{items, group_carriers, used_carriers, copy_carriers}
use Rattle.payload_layout.specs.Loops.Bounds.{Sound, Laid}
use Rattle.payload_layout.specs.Items.{padded, group_order, copy_order, copied_bit, symbol_of, place_of, used, carried}
use Rattle.payload_layout.proofs.OrderLaws.{group-pos, copy-pos, copy-permutes}

-- ---- where an item stands

module _ (L : Layout) (s : Sound L) (n : ℕ) (h : n < items L) where
  pub carriers-pos : zero < L.carriers
  carriers-pos = omega (arith, s.there, mul-pos s.copies-pos (group-pos L s))

  pub carrier-lt : n / L.bits < L.symbols * L.carriers
  unfolding items
  carrier-lt = (div-lt_iff_lt-mul {k = L.bits} s.bits_pos).1 (omega (arith, mul_assoc L.symbols L.carriers L.bits))

  pub symbol-lt : symbol_of L n < L.symbols
  symbol-lt = (div-lt_iff_lt-mul {k = L.carriers} carriers-pos).1 carrier-lt

-- ---- which items are used: those at the low places, and not those at the top

pub low-used : (L : Layout) (n : ℕ) → place_of L n < used_carriers L → used L n ≡ true
unfolding used
low-used L n h = lt-ltb (place_of L n) (used_carriers L) h

pub top-unused : (L : Layout) (n : ℕ) → used_carriers L ≤ place_of L n → used L n ≡ false
unfolding used
top-unused L n h = le-ltb (place_of L n) (used_carriers L) h

used_low : (L : Layout) (n : ℕ) → used L n ≡ true → place_of L n < used_carriers L
unfolding used
used_low L n h = ltb-true (place_of L n) (used_carriers L) h

-- ---- one copy

module _ (L : Layout) (s : Sound L) (one : L.copies ≡ 1) where
  lone : L.interleavers ≡ 1
  lone = (s.one-copy one).0

  all : L.span ≡ L.carriers
  all = (s.one-copy one).1

  still : L.step ≡ 0
  still = (s.one-copy one).2

  pub group-all : group_carriers L ≡ L.carriers
  group-all = ap (λ (k : ℕ). k * L.span) lone ∙ one-mul L.span ∙ all

  pub used_all : used_carriers L ≡ L.carriers
  used_all = ap₂ ◌*◌ one group-all ∙ one-mul L.carriers

  in_group : (p : ℕ) → p < L.span → group_order L 0 p ≡ p
  unfolding group_order
  in_group p h =
      let first : 0 * L.interleavers + 0 ≡ 0 = omega (arith, zero-mul L.interleavers) in
      ap₂ (λ (j i : ℕ). j * L.span + out_addr L.span L.step (0 * L.interleavers + j) i) (div-eq_of_lt h) (mod-eq_of_lt h)
      ∙ ap (λ (K : ℕ). 0 * L.span + out_addr L.span L.step K p) first
      ∙ ap (λ (x : ℕ). 0 * L.span + x) (out-still L.span L.step 0 p still ∙ unshifted L.span p h) ∙ omega (arith, zero-mul L.span)

  in-copy : (p : ℕ) → p < copy_carriers L → copy_order L 0 p ≡ p
  unfolding copy_order
  in-copy p h =
      let g : p / group_carriers L < L.symbols = (div-lt_iff_lt-mul {k = group_carriers L} (group-pos L s)).1 h in
      let i : p % group_carriers L < L.span = omega (arith, mod-lt p (group-pos L s), group-all, all) in
      ap₂ (λ (a b : ℕ). a * group_carriers L + b)
      (ap (λ (by : ℕ). circshift L.symbols by (p / group_carriers L)) (zero-div L.run) ∙ unshifted L.symbols (p / group_carriers L) g)
      (in_group (p % group_carriers L) i) ∙ div-add-mod' p (group_carriers L)

  module _ (n : ℕ) (h : n < items L) where
    pub all-used : used L n ≡ true
    all-used = low-used L n (omega (arith, used_all, mod-lt (n / L.bits) (carriers-pos L s n h)))

    in-padded : carried L n ≡ padded L 0 n
    unfolding carried copied_bit
    in-padded =
        let C : ℕ = n / L.bits in
        let l : C < copy_carriers L = omega (arith, carrier-lt L s n h, ap (λ (k : ℕ). L.symbols * k) group-all) in
        let u : symbol_of L n * used_carriers L + place_of L n ≡ C = ap (λ (k : ℕ). symbol_of L n * k + place_of L n) used_all ∙ div-add-mod' C L.carriers in
        ap (λ (k : ℕ). copied_bit L k (n % L.bits)) u
        ∙ ap₂ (λ (k q : ℕ). padded L k (copy_order L k q * L.bits + n % L.bits)) (div-eq_of_lt l) (mod-eq_of_lt l)
        ∙ ap (λ (x : ℕ). padded L 0 (x * L.bits + n % L.bits)) (in-copy C l) ∙ ap (padded L 0) (div-add-mod' n L.bits)

    -- item n carries bit n, and from the pad on bit n - coded
    pub one-carried : carried L n ≡ cond (ltb n L.coded) n (n - L.coded)
    unfolding padded
    one-carried =
        let none : 0 * L.pad + (n - L.coded) ≡ n - L.coded = omega (arith, zero-mul L.pad) in
        in-padded ∙ ap (λ (k : ℕ). cond (ltb n L.coded) n k) none

  -- the coded bits and the pad are all items
  pub one-full : items L ≡ L.coded + L.pad
  unfolding items
  one-full =
      sym (mul_assoc L.symbols L.carriers L.bits) ∙ ap (λ (k : ℕ). L.symbols * k * L.bits) (sym group-all) ∙ s.full

-- ---- every layout whose pads are within the data

module _ (L : Layout) (laid : Laid L) where
  pub one-pad : L.copies ≡ 1 → L.pad ≤ L.coded
  one-pad one = omega (arith, laid.within, ap (λ (k : ℕ). k * L.pad) one, one-mul L.pad)

  -- bit x of copy k's padded data
  pub padded-below : (k x : ℕ) → k < L.copies → x < L.coded + L.pad → padded L k x < L.coded
  unfolding padded
  padded-below k x h l =
      lt-cases x L.coded
      (λ t. rw (lt-ltb x L.coded t) t)
      (λ t.
      rw (le-ltb x L.coded t)
      (omega (arith, digits_lt {q = k} {m = L.copies} {r = x - L.coded} {c = L.pad} h (omega arith), laid.within)))

  copied-below : (u e : ℕ) → u < L.copies * copy_carriers L → e < L.bits → copied_bit L u e < L.coded
  unfolding copied_bit
  copied-below u e h l =
      let k : ℕ = u / copy_carriers L in
      let below : k < L.copies = (div-lt_iff_lt-mul {k = copy_carriers L} (copy-pos L laid.sound)).1 h in
      let q : copy_order L k (u % copy_carriers L) < copy_carriers L =
      (copy-permutes L laid.sound k).below (u % copy_carriers L) (mod-lt u (copy-pos L laid.sound)) in
      padded-below k _ below (omega (arith, digits_lt {c = L.bits} q l, laid.sound.full))

  -- what a used item carries is a coded bit
  pub carried-below : (n : ℕ) → n < items L → used L n ≡ true → carried L n < L.coded
  unfolding carried
  carried-below n h t =
      copied-below (symbol_of L n * used_carriers L + place_of L n) (n % L.bits)
      (omega (
        arith,
        digits_lt {c = used_carriers L} (symbol-lt L laid.sound n h) (used_low L n t),
        mul_left_comm L.symbols L.copies (group_carriers L),
      ))
      (mod-lt n laid.sound.bits_pos)
