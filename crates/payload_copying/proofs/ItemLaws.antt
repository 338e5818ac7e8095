-- A loop over slots knows copy and group without a division for each item: which bit stands at a place of a slot. Assumes nothing.
use mathlib.Core.Path.{◌≡◌, sym, ap, ap₂, ◌∙◌}
use mathlib.Core.Bool.{true}
use Prim.Native.Nat.{ℕ, ◌+◌, ◌*◌, ◌/◌, ◌%◌, ◌<◌}
use native.Mathlib.Nat.{mul_assoc, add-mul, mod-lt, div-add-mod'}
use native.Mathlib.Omega.{arith}
use lib.Arith.{digits_div, digits_mod, digits_lt}
use Rattle.address_interleaver.specs.Addresses.{circshift}
use Rattle.payload_layout.specs.declared.Layout.{Layout}
use Rattle.payload_layout.specs.Layouts.{group_carriers, used_carriers, copy_carriers}
use Rattle.payload_layout.specs.Loops.Bounds.{Sound}
use Rattle.payload_layout.specs.Items.{group_order, copy_order, padded, copied_bit, used, carried}
use Rattle.payload_layout.proofs.CarriedLaws.{low-used}

-- the padded data's carrier at place p of slot t
abbrev pub slot_carrier : Layout → ℕ → ℕ → ℕ
slot_carrier L t p = circshift L.symbols (t / L.symbols / L.run) (t % L.symbols) * group_carriers L + group_order L (t / L.symbols) p

module _ (L : Layout) (s : Sound L) where
  -- place p of slot t is used carrier t * group_carriers + p
  in-copy : (t p : ℕ) → p < group_carriers L → t % L.symbols * group_carriers L + p < copy_carriers L
  in-copy t p h = digits_lt {c = group_carriers L} (mod-lt t s.symbols-pos) h

  parted : (t p : ℕ) → t * group_carriers L + p ≡ t / L.symbols * copy_carriers L + (t % L.symbols * group_carriers L + p)
  parted t p =
      omega (
        arith,
        ap (λ (k : ℕ). k * group_carriers L) (sym (div-add-mod' t L.symbols)),
        add-mul (t / L.symbols * L.symbols) (t % L.symbols) (group_carriers L),
        mul_assoc (t / L.symbols) L.symbols (group_carriers L),
      )

  order_is : (k q p : ℕ) → p < group_carriers L
      → copy_order L k (q * group_carriers L + p) ≡ circshift L.symbols (k / L.run) q * group_carriers L + group_order L k p
  unfolding copy_order
  order_is k q p h =
      ap₂ (λ (a b : ℕ). circshift L.symbols (k / L.run) a * group_carriers L + group_order L k b) (digits_div q h) (digits_mod q h)

  slot-bit : (t p e : ℕ) → p < group_carriers L
      → copied_bit L (t * group_carriers L + p) e ≡ padded L (t / L.symbols) (slot_carrier L t p * L.bits + e)
  unfolding copied_bit
  slot-bit t p e h =
      let copy : (t * group_carriers L + p) / copy_carriers L ≡ t / L.symbols =
      ap (λ (k : ℕ). k / copy_carriers L) (parted t p) ∙ digits_div (t / L.symbols) (in-copy t p h) in
      let rest : (t * group_carriers L + p) % copy_carriers L ≡ t % L.symbols * group_carriers L + p =
      ap (λ (k : ℕ). k % copy_carriers L) (parted t p) ∙ digits_mod (t / L.symbols) (in-copy t p h) in
      ap₂ (λ (a b : ℕ). padded L a (copy_order L a b * L.bits + e)) copy rest
      ∙ ap (λ (x : ℕ). padded L (t / L.symbols) (x * L.bits + e)) (order_is (t / L.symbols) (t % L.symbols) p h)

  -- item (y, c, e): bit e at place c of symbol y
  module _ (y c e : ℕ) (hc : c < L.carriers) (he : e < L.bits) where
    at-carrier : ((y * L.carriers + c) * L.bits + e) / L.bits ≡ y * L.carriers + c
    at-carrier = digits_div (y * L.carriers + c) he

    pub at_place : ((y * L.carriers + c) * L.bits + e) / L.bits % L.carriers ≡ c
    at_place = ap (λ (k : ℕ). k % L.carriers) at-carrier ∙ digits_mod y hc

    at_symbol : ((y * L.carriers + c) * L.bits + e) / L.bits / L.carriers ≡ y
    at_symbol = ap (λ (k : ℕ). k / L.carriers) at-carrier ∙ digits_div y hc

    pub carried-at : carried L ((y * L.carriers + c) * L.bits + e) ≡ copied_bit L (y * used_carriers L + c) e
    unfolding carried
    carried-at =
        ap₂ (λ (a b : ℕ). copied_bit L (a * used_carriers L + b) (((y * L.carriers + c) * L.bits + e) % L.bits)) at_symbol at_place
        ∙ ap (copied_bit L (y * used_carriers L + c)) (digits_mod (y * L.carriers + c) he)

  -- slot j of symbol y: its items are used, and carry what the slot's number says
  module _ (y j p e : ℕ) (hj : j < L.copies) (hp : p < group_carriers L) (he : e < L.bits) where
    abbrev item : ℕ
    item = (y * L.carriers + (j * group_carriers L + p)) * L.bits + e

    in-used : j * group_carriers L + p < used_carriers L
    in-used = digits_lt {c = group_carriers L} hj hp

    there : j * group_carriers L + p < L.carriers
    there = omega (arith, in-used, s.there)

    pub slot-used : used L item ≡ true
    slot-used = low-used L item (omega (arith, at_place y (j * group_carriers L + p) e there he, in-used))

    pub slot-carried : carried L item ≡ padded L ((y * L.copies + j) / L.symbols) (slot_carrier L (y * L.copies + j) p * L.bits + e)
    slot-carried =
        let on : y * used_carriers L + (j * group_carriers L + p) ≡ (y * L.copies + j) * group_carriers L + p =
        omega (arith, add-mul (y * L.copies) j (group_carriers L), mul_assoc y L.copies (group_carriers L)) in
        carried-at y (j * group_carriers L + p) e there he ∙ ap (λ (u : ℕ). copied_bit L u e) on ∙ slot-bit (y * L.copies + j) p e hp
