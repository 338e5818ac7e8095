-- Laws of one slot: its order in the table of addresses, the group that stands there, and its items. Assumes nothing.
use mathlib.Core.Path.{◌≡◌, sym, ap, ap₂, ◌∙◌}
use mathlib.Core.List.{List}
use Prim.Native.Nat.{ℕ, ◌+◌, ◌-◌, ◌*◌, ◌/◌, ◌%◌, ◌<◌, ◌≤◌}
use native.Mathlib.Nat.{mul_assoc, add-mul, mod-lt, div-add-mod', div-lt_iff_lt-mul}
use native.Mathlib.Omega.{arith}
use lib.Arith.{digits_div, digits_mod, digits_lt}
use lib.ListN.{length, get_or, take, drop, length-take, length-drop}
use lib.Seq.{get_or-take, get_or-drop}
use borrow.Author.Tests.{lt-ltb, le-ltb}
use borrow.Author.Rules.{part_to_end}
use Rattle.bits.specs.Lists.{written}
use Rattle.bits.proofs.NumberLaws.{lt-cases, row_within}
use Rattle.bits.proofs.ListLaws.{written-ext}
use Rattle.address_interleaver.specs.Addresses.{out_addr}
use Rattle.address_interleaver.specs.Loops.Table.{address_of}
use Rattle.payload_layout.specs.declared.Layout.{Layout}
use Rattle.payload_layout.specs.Layouts.{group_carriers, group_bits}
use Rattle.payload_layout.specs.Items.{group_order, padded}
use Rattle.payload_layout.proofs.OrderLaws.{group-permutes}
use Rattle.payload_copying.specs.Loops.Slots.{Slotted, Addresses, Order, slot_bit, taken, LastGroup}
use Rattle.payload_copying.proofs.SlottedLaws.{order-within, group-from, group-last}

-- bit x of group g in the padded data of copy k
abbrev pub Sourced : Layout → ℕ → ℕ → List ℕ → List ℕ → Type 0
Sourced L k g coded src = (x : ℕ) → x < group_bits L → get_or src x 0 ≡ get_or coded (padded L k (g * group_bits L + x)) 0

-- an item of a slot is a bit of its group, by the order of the carriers
pub slot_at : (L : Layout) (k g i : ℕ) → slot_bit L k g i ≡ padded L k (g * group_bits L + (group_order L k (i / L.bits) * L.bits + i % L.bits))
unfolding slot_bit
slot_at L k g i =
    let o = group_order L k (i / L.bits) in
    let at : (g * group_carriers L + o) * L.bits + i % L.bits ≡ g * group_bits L + (o * L.bits + i % L.bits) =
    omega (arith, mul_assoc g (group_carriers L) L.bits, add-mul (g * group_carriers L) o L.bits) in
    ap (padded L k) at

module _ (L : Layout) (s : Slotted L) where
  -- copy k's order is a part of the table
  pub address-group : (k p : ℕ) → p < group_carriers L → address_of L.interleavers L.span L.step (k * group_carriers L + p) ≡ group_order L k p
  unfolding address_of group_order
  address-group k p h =
      let n = L.span in
      let j : p / n < L.interleavers = (div-lt_iff_lt-mul {k = n} s.laid.sound.span_pos).1 h in
      let r : p % n < n = mod-lt p s.laid.sound.span_pos in
      let e : k * group_carriers L + p ≡ (k * L.interleavers + p / n) * n + p % n =
      omega (arith, sym (mul_assoc k L.interleavers n), add-mul (k * L.interleavers) (p / n) n, div-add-mod' p n) in
      let d : (k * group_carriers L + p) / n ≡ k * L.interleavers + p / n = ap (λ (x : ℕ). x / n) e ∙ digits_div (k * L.interleavers + p / n) r in
      let m : (k * group_carriers L + p) % n ≡ p % n = ap (λ (x : ℕ). x % n) e ∙ digits_mod (k * L.interleavers + p / n) r in
      ap₂ (λ (a b : ℕ). a % L.interleavers * n + out_addr n L.step a b) d m
      ∙ ap (λ (a : ℕ). a * n + out_addr n L.step (k * L.interleavers + p / n) (p % n)) (digits_mod k j)

  -- ---- the order

  pub order-made : (k : ℕ) → k < L.copies → (table : List ℕ) → Addresses L table → (size first : ℕ) → size ≡ group_carriers L → first ≡ k * group_carriers L
      → Order L k (take size (drop first table))
  order-made k hk table t size first n f =
      record {
        long = simp (length-take, length-drop) (omega (arith, order-within L s k hk, t.long));
        at = λ p h.
            get_or-take size (drop first table) p 0 (omega arith) ∙ get_or-drop first table p 0
            ∙ ap (λ (x : ℕ). get_or table (x + p) 0) f
            ∙ t.at (k * group_carriers L + p) (digits_lt {c = group_carriers L} hk h) ∙ address-group k p h;
      }

  module _ (k : ℕ) (order : List ℕ) (o : Order L k order) where
    -- a carrier of the group is in a list that holds the group
    pub order-in : (src : List ℕ) → group_bits L ≤ length src → (p : ℕ) → p < length order
        → get_or order p 0 * L.bits + L.bits ≤ length src
    order-in src h p l =
        let q : p < group_carriers L = omega (arith, o.long) in
        let below : group_order L k p < group_carriers L = (group-permutes L s.laid.sound k).below p q in
        omega (arith, ap (λ (x : ℕ). x * L.bits) (o.at p q), row_within (group_order L k p) L.bits (group_carriers L) below)

    -- the items of a slot
    pub slot-laid : (g : ℕ) (coded src out after : List ℕ) → Sourced L k g coded src
        → after ≡ written (length order * L.bits) (taken L.bits order src) out
        → after ≡ written (group_bits L) (λ i. get_or coded (slot_bit L k g i) 0) out
    unfolding taken
    slot-laid g coded src out after from w =
        w ∙ ap (λ (n : ℕ). written (n * L.bits) (taken L.bits order src) out) o.long
        ∙ written-ext (group_bits L) _ _ out each
      where
        each : (i : ℕ) → i < group_bits L → taken L.bits order src i ≡ get_or coded (slot_bit L k g i) 0
        each i h =
            let b : 0 < L.bits = s.laid.sound.bits_pos in
            let p : i / L.bits < group_carriers L = (div-lt_iff_lt-mul {k = L.bits} b).1 h in
            let r : i % L.bits < L.bits = mod-lt i b in
            let a = group_order L k (i / L.bits) in
            let lo : a < group_carriers L = (group-permutes L s.laid.sound k).below (i / L.bits) p in
            let x : a * L.bits + i % L.bits < group_bits L = digits_lt {c = L.bits} lo r in
            ap (λ (y : ℕ). get_or src (y * L.bits + i % L.bits) 0) (o.at (i / L.bits) p)
            ∙ from (a * L.bits + i % L.bits) x ∙ ap (λ (y : ℕ). get_or coded y 0) (sym (slot_at L k g i))

  -- ---- the group

  pub source-data : (k g from : ℕ) (coded : List ℕ) → from ≡ g * group_bits L → from + group_bits L ≤ length coded → length coded ≡ L.coded
      → Sourced L k g coded (take (length coded - from) (drop from coded))
  unfolding padded
  source-data k g from coded f h l x b =
      let low : g * group_bits L + x < L.coded = omega arith in
      rw (part_to_end coded from) (get_or-drop from coded x 0)
      ∙ ap (λ (y : ℕ). get_or coded y 0) (ap (λ (y : ℕ). y + x) f ∙ sym (rw (lt-ltb (g * group_bits L + x) L.coded low)))

  pub source-last : (k g from tail : ℕ) (coded r : List ℕ) → g < L.symbols → from ≡ g * group_bits L → tail ≡ k * L.pad → L.coded < from + group_bits L
      → length coded ≡ L.coded → LastGroup from tail L.pad coded r → Sourced L k g coded r
  unfolding padded
  source-last k g from tail coded r hg f t h l made x b =
      lt-cases (g * group_bits L + x) L.coded
      (λ low. made.0 x (omega arith) ∙ ap (λ (y : ℕ). get_or coded y 0) (ap (λ (y : ℕ). y + x) f ∙ sym (rw (lt-ltb (g * group_bits L + x) L.coded low))))
      (λ high. let y = g * group_bits L + x - L.coded in
      let whole = group-last L s g hg (omega arith) in
      let at : length coded - from + y ≡ x = omega (arith, group-from L s g hg) in
      ap (λ (z : ℕ). get_or r z 0) (sym at) ∙ made.1 y (omega arith)
      ∙ ap (λ (z : ℕ). get_or coded z 0) (ap (λ (z : ℕ). z + y) t ∙ sym (rw (le-ltb (g * group_bits L + x) L.coded high))))
