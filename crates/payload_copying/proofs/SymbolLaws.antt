-- Laws of a symbol: its slots carry the groups that stand there, and its unused carriers nothing. Assumes nothing.
use mathlib.Core.Path.{◌≡◌, subst, sym, ap, ap₂, ◌∙◌}
use mathlib.Core.Bool.{Bool, true, false, cond, ◌&&◌}
use Prim.Native.Nat.{ℕ, ◌+◌, ◌-◌, ◌*◌, ◌/◌, ◌%◌, ◌<◌, ◌≤◌}
use native.Mathlib.Nat.{mul_assoc, mul_comm, add-mul, mod-lt, div-add-mod', div-lt_iff_lt-mul, lt_of_mul-lt-mul_right, mul-le-mul_right}
use native.Mathlib.Omega.{arith}
use lib.Arith.{digits_div, digits_mod, digits_lt}
use lib.Dec.{eqb}
use Rattle.bits.proofs.NumberLaws.{lt-cases, row_next, row_within}
use Rattle.address_interleaver.specs.Addresses.{circshift}
use Rattle.payload_layout.specs.declared.Layout.{Layout}
use Rattle.payload_layout.specs.Layouts.{group_carriers, used_carriers, group_bits, symbol_items, items}
use Rattle.payload_layout.specs.Items.{group_order, padded, used, carried, carries, sent_on}
use Rattle.payload_layout.proofs.CarriedLaws.{top-unused}
use Rattle.payload_layout.proofs.ItemLaws.{unused-sent}
use Rattle.payload_copying.specs.declared.Place.{Place}
use Rattle.payload_copying.specs.declared.Slot.{Slot}
use Rattle.payload_copying.specs.Loops.Slots.{Slotted, slot_no, Standing, slot_bit, Walking, Carries}
use Rattle.payload_copying.proofs.SlottedLaws.{items-rows}
use Rattle.payload_copying.proofs.ItemLaws.{slot_carrier, at_place, slot-used, slot-carried}

-- a place names a copy and a group that there are
abbrev pub Within : Layout → Place → Type 0
Within L p = (p.copy < L.copies) × (p.group < L.symbols)

module _ (L : Layout) (z : Slotted L) where
  pub used-bits : L.copies * group_bits L ≤ symbol_items L
  used-bits =
      omega (arith, mul_assoc L.copies (group_carriers L) L.bits, mul-le-mul_right {m = used_carriers L} {n = L.carriers} L.bits z.laid.sound.there)

  pub slot-within : (j : ℕ) → j < L.copies → j * group_bits L + group_bits L ≤ symbol_items L
  slot-within j h = omega (arith, row_within j (group_bits L) L.copies h, used-bits)

  -- ---- the slot at which a walk stands

  module _ (y j : ℕ) (s : Place) (hy : y < L.symbols) (hj : j < L.copies) (at : Standing L s) (no : slot_no L s ≡ y * L.copies + j) where
    pub slot-in : Within L s
    slot-in =
        let l : y * L.copies + j < L.symbols * L.copies = digits_lt {c = L.copies} hy hj in (
          lt_of_mul-lt-mul_right L.symbols (omega (arith, no, mul_comm L.symbols L.copies)),
          rw at.group-is (mod-lt _ z.laid.sound.symbols-pos),
        )

    copy_is : (y * L.copies + j) / L.symbols ≡ s.copy
    copy_is = ap (λ (t : ℕ). t / L.symbols) (sym no) ∙ digits_div s.copy at.position_in

    position-is : (y * L.copies + j) % L.symbols ≡ s.position
    position-is = ap (λ (t : ℕ). t % L.symbols) (sym no) ∙ digits_mod s.copy at.position_in

    carrier-is : (p : ℕ) → slot_carrier L (y * L.copies + j) p ≡ s.group * group_carriers L + group_order L s.copy p
    carrier-is p =
        ap₂ (λ (k q : ℕ). circshift L.symbols (k / L.run) q * group_carriers L + group_order L k p) copy_is position-is
        ∙ ap (λ (g : ℕ). g * group_carriers L + group_order L s.copy p) (sym at.group-is)

    -- item i of the slot is used, and carries the slot's bit
    module _ (i : ℕ) (h : i < group_bits L) where
      at-carrier : i / L.bits < group_carriers L
      at-carrier = (div-lt_iff_lt-mul {k = L.bits} z.laid.sound.bits_pos).1 h

      at-bit : i % L.bits < L.bits
      at-bit = mod-lt i z.laid.sound.bits_pos

      numbered : y * symbol_items L + (j * group_bits L + i) ≡ (y * L.carriers + (j * group_carriers L + i / L.bits)) * L.bits + i % L.bits
      numbered =
          omega (
            arith,
            add-mul (y * L.carriers) (j * group_carriers L + i / L.bits) L.bits,
            add-mul (j * group_carriers L) (i / L.bits) L.bits,
            mul_assoc y L.carriers L.bits,
            mul_assoc j (group_carriers L) L.bits,
            div-add-mod' i L.bits,
          )

      pub slot-in-use : used L (y * symbol_items L + (j * group_bits L + i)) ≡ true
      slot-in-use = ap (used L) numbered ∙ slot-used L z.laid.sound y j (i / L.bits) (i % L.bits) hj at-carrier at-bit

      pub slot-carries : carried L (y * symbol_items L + (j * group_bits L + i)) ≡ slot_bit L s.copy s.group i
      unfolding slot_bit
      slot-carries =
          ap (carried L) numbered ∙ slot-carried L z.laid.sound y j (i / L.bits) (i % L.bits) hj at-carrier at-bit
          ∙ ap₂ (λ (k c : ℕ). padded L k (c * L.bits + i % L.bits)) copy_is (carrier-is (i / L.bits))

  -- ---- the unused carriers

  pub unused-at : (y i : ℕ) → i < symbol_items L → L.copies * group_bits L ≤ i → used L (y * symbol_items L + i) ≡ false
  unused-at y i h l =
      let B = L.bits in
      let b : 0 < B = z.laid.sound.bits_pos in
      let p : i / B < L.carriers = (div-lt_iff_lt-mul {k = B} b).1 h in
      let r : i % B < B = mod-lt i b in
      let n : y * symbol_items L + i ≡ (y * L.carriers + i / B) * B + i % B =
      omega (arith, add-mul (y * L.carriers) (i / B) B, mul_assoc y L.carriers B, div-add-mod' i B) in
      let q : (y * symbol_items L + i) / B % L.carriers ≡ i / B =
      ap (λ (x : ℕ). x / B % L.carriers) n ∙ at_place L z.laid.sound y (i / B) (i % B) p r in
      let above : used_carriers L ≤ i / B =
      lt-cases (i / B) (used_carriers L)
      (λ k. absurd (omega (arith, div-add-mod' i B, row_within (i / B) B (used_carriers L) k, mul_assoc L.copies (group_carriers L) B)))
      (λ k. k) in
      top-unused L (y * symbol_items L + i) (omega (arith, q))

-- ---- a walk over all slots

-- the symbol where a walk has come to place p
abbrev pub symbol_at : Layout → Place → ℕ
symbol_at L p = slot_no L p / L.copies

-- it is the one that the walk says
settled : (L : Layout) (p : Place) (y j n : ℕ) → Walking L p y j n → Walking L p (symbol_at L p) j n
settled L p y j n w = subst (λ (k : ℕ). Walking L p k j n) (sym (ap (λ (t : ℕ). t / L.copies) w.number ∙ digits_div y w.lane_in)) w

pub walk-first : (L : Layout) → Slotted L → (p : Place) → Standing L p → slot_no L p ≡ 0 * L.symbols → Walking L p (symbol_at L p) 0 0
walk-first L z p at number =
    settled L p 0 0 0 (record {
      standing = at;
      number = omega (arith, number);
      lane_in = z.laid.sound.copies-pos;
      number_in = omega arith;
      start-is = omega arith;
    })

module _ (L : Layout) (z : Slotted L) (p : Place) (y j n : ℕ) (w : Walking L p y j n) where
  pub copy_in : p.copy ≤ L.copies
  copy_in =
      lt-cases L.copies p.copy
      (λ h. absurd (omega (arith, row_within L.copies L.symbols p.copy h, w.number, w.number_in, mul_comm L.symbols L.copies, z.laid.sound.symbols-pos)))
      (λ h. h)

  pub walk-end : p.copy ≡ L.copies → n ≡ items L
  walk-end e =
      let all : y * L.copies + j ≡ L.symbols * L.copies + 0 =
      omega (arith, ap (λ (k : ℕ). k * L.symbols) e, w.number, w.number_in, mul_comm L.symbols L.copies) in
      let last : y ≡ L.symbols =
      sym (digits_div y w.lane_in) ∙ ap (λ (k : ℕ). k / L.copies) all ∙ digits_div L.symbols z.laid.sound.copies-pos in
      let none : j ≡ 0 = omega (arith, all, ap (λ (k : ℕ). k * L.copies) last) in
      w.start-is ∙ ap₂ (λ (k l : ℕ). k * symbol_items L + l * group_bits L) last none
      ∙ (let k : L.symbols * symbol_items L + 0 * group_bits L ≡ items L = omega (arith, items-rows L z) in k)

  module _ (h : p.copy < L.copies) where
    hy : y < L.symbols
    hy =
        lt_of_mul-lt-mul_right L.copies
        (omega (arith, w.number, row_within p.copy L.symbols L.copies h, w.standing.position_in, mul_comm L.symbols L.copies))

    place-in : Within L p
    place-in = slot-in L z y j p hy w.lane_in w.standing w.number

    symbol-end : y * symbol_items L + symbol_items L ≤ items L
    symbol-end = omega (arith, row_within y (symbol_items L) L.symbols hy, items-rows L z)

    pub walk-room : n + group_bits L ≤ items L
    walk-room = omega (arith, w.start-is, slot-within L z j w.lane_in, symbol-end)

    pub walk-next : (q : Place) → Standing L q → slot_no L q ≡ slot_no L p + 1 → j + 1 < L.copies
        → Walking L q (symbol_at L q) (j + 1) (n + group_bits L)
    walk-next q at next lane =
        settled L q y (j + 1) (n + group_bits L) (record {
          standing = at;
          number = omega (arith, next, w.number);
          lane_in = lane;
          number_in = omega (arith, row_within y L.copies L.symbols hy);
          start-is = omega (arith, w.start-is, row_next j (group_bits L));
        })

    -- after a symbol's last slot come the items of its unused carriers
    row-end : L.copies ≤ j + 1 → (unused : ℕ) → unused + L.copies * group_bits L ≡ symbol_items L → n + group_bits L + unused ≡ (y + 1) * symbol_items L
    row-end lane unused u =
        let last : (j + 1) * group_bits L ≡ L.copies * group_bits L = ap (λ (k : ℕ). k * group_bits L) (let e : j + 1 ≡ L.copies = omega (arith, w.lane_in) in e) in
        omega (arith, w.start-is, row_next j (group_bits L), last, u, row_next y (symbol_items L))

    pub walk-row : (q : Place) → Standing L q → slot_no L q ≡ slot_no L p + 1 → L.copies ≤ j + 1
        → (unused : ℕ) → unused + L.copies * group_bits L ≡ symbol_items L → Walking L q (symbol_at L q) 0 (n + group_bits L + unused)
    walk-row q at next lane unused u =
        settled L q (y + 1) 0 (n + group_bits L + unused) (record {
          standing = at;
          number = omega (arith, next, w.number, w.lane_in, row_next y L.copies);
          lane_in = z.laid.sound.copies-pos;
          number_in = omega (arith, row_next y L.copies, row_within y L.copies L.symbols hy);
          start-is = omega (arith, row-end lane unused u);
        })

    carries-to : (end : ℕ) → n + group_bits L ≤ end → end ≤ items L → ((m : ℕ) → n + group_bits L ≤ m → m < end → used L m ≡ false)
        → Carries L (record { copy = p.copy; group = p.group; start = n; end = end })
    carries-to end room within free =
        record {
          copy_in = place-in.0;
          group-in = place-in.1;
          room = room;
          end_in = within;
          in-use = λ i h.
              let at : n + i ≡ y * symbol_items L + (j * group_bits L + i) = omega (arith, w.start-is) in
              ap (used L) at ∙ slot-in-use L z y j p hy w.lane_in w.standing w.number i h;
          bit-is = λ i h.
              let at : n + i ≡ y * symbol_items L + (j * group_bits L + i) = omega (arith, w.start-is) in
              ap (carried L) at ∙ slot-carries L z y j p hy w.lane_in w.standing w.number i h;
          unused = free;
        }

    pub carries-next : Carries L (record { copy = p.copy; group = p.group; start = n; end = n + group_bits L })
    carries-next = carries-to (n + group_bits L) (omega arith) walk-room (λ m l h. absurd (omega arith))

    pub carries-row : L.copies ≤ j + 1 → (unused : ℕ) → unused + L.copies * group_bits L ≡ symbol_items L
        → Carries L (record { copy = p.copy; group = p.group; start = n; end = n + group_bits L + unused })
    carries-row lane unused u =
        let end = row-end lane unused u in
        let row = row_next y (symbol_items L) in
        let from : n + group_bits L ≡ y * symbol_items L + L.copies * group_bits L = omega (arith, end, row, u) in
        carries-to (n + group_bits L + unused) (omega arith) (omega (arith, end, row, symbol-end))
        (λ m l k.
        let at : m ≡ y * symbol_items L + (m - y * symbol_items L) = omega (arith, from) in
        ap (used L) at ∙ unused-at L z y (m - y * symbol_items L) (omega (arith, end, row)) (omega (arith, from)))

-- ---- the items of a slot

module _ (L : Layout) (s : Slot) (c : Carries L s) where
  pub slot-sent : (d : ℕ → ℕ) (i : ℕ) → i < group_bits L → d (slot_bit L s.copy s.group i) ≡ sent_on L d (s.start + i)
  unfolding sent_on
  slot-sent d i h = sym (ap₂ (λ (u : Bool) (b : ℕ). cond u (d b) 0) (c.in-use i h) (c.bit-is i h))

  pub slot-clear : (d : ℕ → ℕ) (n : ℕ) → s.start + group_bits L ≤ n → n < s.end → 0 ≡ sent_on L d n
  slot-clear d n l h = sym (unused-sent L d n (c.unused n l h))

  pub slot-test : (i b : ℕ) → i < group_bits L → eqb (slot_bit L s.copy s.group i) b ≡ carries L (s.start + i) b
  unfolding carries
  slot-test i b h = sym (ap₂ (λ (u : Bool) (a : ℕ). u && eqb a b) (c.in-use i h) (c.bit-is i h))
