-- Laws of the votes of a slot whose carriers have one bit each, carrier by carrier. Assumes nothing.
use mathlib.Core.Path.{◌≡◌, sym, ap, ◌∙◌}
use mathlib.Core.List.{List}
use Prim.Native.Nat.{ℕ, ◌+◌, ◌*◌, ◌/◌, ◌%◌, ◌<◌}
use native.Mathlib.Nat.{mul-one}
use native.Mathlib.Omega.{arith}
use lib.ListN.{get_or, set}
use Rattle.votes.specs.Loops.Counters.{after_item, counted}
use Rattle.votes.proofs.CounterLaws.{adds-item, carries_same}
use Rattle.payload_layout.specs.declared.Layout.{Layout}
use Rattle.payload_layout.specs.Layouts.{group_carriers, group_bits}
use Rattle.payload_layout.specs.Items.{group_order, padded}
use Rattle.payload_layout.proofs.OrderLaws.{group-permutes}
use Rattle.payload_copying.specs.Loops.Slots.{Slotted, slot_bit}
use Rattle.payload_copying.proofs.SlottedLaws.{group-within}
use Rattle.payload_copying.proofs.SlotLaws.{slot_at}
use Rattle.payload_combining.specs.Loops.Groups.{slot_on}

module _ (L : Layout) (z : Slotted L) (one : L.bits ≡ 1) where
  pub one-bits : group_bits L ≡ group_carriers L
  one-bits = ap (λ (b : ℕ). group_carriers L * b) one ∙ mul-one (group_carriers L)

  -- carrier p of a slot in which group g of copy k stands
  module _ (k g p address : ℕ) (hg : g < L.symbols) (hp : p < group_carriers L) (a : address ≡ group_order L k p) where
    -- where the carrier stands in the padded data of copy k
    abbrev bit_at : ℕ
    bit_at = g * group_carriers L + address

    pub bit_in : bit_at < L.coded + L.pad
    bit_in =
        omega (
          arith,
          a,
          (group-permutes L z.laid.sound k).below p hp,
          one-bits,
          ap (λ (b : ℕ). g * b) one-bits,
          group-within L z g hg,
        )

    bit_is : slot_bit L k g p ≡ padded L k bit_at
    bit_is =
        let whole : p / 1 ≡ p = omega arith in
        let place : group_order L k (p / L.bits) * L.bits + p % L.bits ≡ group_order L k (p / 1) * 1 + p % 1 =
        ap (λ (b : ℕ). group_order L k (p / b) * b + p % b) one in
        slot_at L k g p
        ∙ ap (padded L k) (omega (arith, place, ap (group_order L k) whole, a, ap (λ (b : ℕ). g * b) one-bits))

    -- a carrier more
    pub narrow_next : (at v : ℕ) (items start now : List ℕ) → at ≡ padded L k bit_at → v ≡ after_item (get_or now at 0) (get_or items p 0)
        → now ≡ counted L.coded p (slot_on L k g) items start → set now at v ≡ counted L.coded (p + 1) (slot_on L k g) items start
    unfolding slot_on
    narrow_next at v items start now is f e =
        adds-item L.coded p at v items now f (slot_on L k g) start
        (λ j q l.
        let same : p + j ≡ p = omega arith in
        carries_same (slot_bit L k g) (λ i. at) (p + j) j (ap (slot_bit L k g) same ∙ bit_is ∙ sym is) q)
        e
