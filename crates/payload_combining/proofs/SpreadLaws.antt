-- Carriers put back in order, and the votes of a slot in the order of its group. Assumes nothing.
use mathlib.Core.Path.{◌≡◌, sym, ap, ap₂, ◌∙◌}
use mathlib.Core.Bool.{cond, ◌&&◌}
use mathlib.Core.List.{List}
use Prim.Native.Nat.{ℕ, ◌+◌, ◌*◌, ◌/◌, ◌%◌, ◌<◌}
use native.Mathlib.Nat.{mod-lt, div-add-mod', div-lt_iff_lt-mul}
use native.Mathlib.Omega.{arith}
use lib.Dec.{eqb}
use lib.ListN.{length, get_or}
use Rattle.bits.specs.Sums.{count}
use Rattle.bits.specs.Permutations.{Permutes}
use Rattle.bits.proofs.NumberLaws.{lt-cases, row_within}
use Rattle.bits.proofs.ListLaws.{tabulate-ext}
use Rattle.bits.proofs.SumLaws.{count-ext}
use Rattle.bits.proofs.PermutationLaws.{in_order, permutes-ext, rows-permute, sum-permuted}
use Rattle.votes.specs.Votes.{carries as carries_on, votes}
use Rattle.votes.specs.Loops.Counters.{counted}
use Rattle.payload_layout.specs.declared.Layout.{Layout}
use Rattle.payload_layout.specs.Layouts.{group_carriers, group_bits}
use Rattle.payload_layout.specs.Items.{group_order}
use Rattle.payload_layout.proofs.OrderLaws.{group-permutes}
use Rattle.payload_copying.specs.Loops.Slots.{Slotted, Order, Copied}
use Rattle.payload_copying.proofs.SlotLaws.{slot_at}
use Rattle.payload_combining.specs.Loops.Groups.{slot_on, group_on}

-- ---- carriers put back in order

abbrev pub Spread : ℕ → ℕ → List ℕ → List ℕ → List ℕ → Type 0
Spread bits n order items group = (p e : ℕ) → p < n → e < bits → get_or group (get_or order p 0 * bits + e) 0 ≡ get_or items (p * bits + e) 0

pub spread-next : (bits p address n : ℕ) (order items group after : List ℕ) → Permutes n (λ p. get_or order p 0) → p < n
    → address ≡ get_or order p 0 → Copied bits items (p * bits) (address * bits) group after
    → Spread bits p order items group → Spread bits (p + 1) order items after
spread-next bits p address n order items group after P h a c w q e l b =
    lt-cases q p
    (λ k.
    lt-cases (get_or order q 0) address
    (λ m. c.under _ (omega (arith, row_within (get_or order q 0) bits address m)) ∙ w q e k b)
    (λ m.
    lt-cases address (get_or order q 0)
    (λ o. c.over _ (omega (arith, row_within address bits (get_or order q 0) o)) ∙ w q e k b)
    (λ o. absurd (let z : q ≡ p = P.apart q p (omega arith) h (omega (arith, a)) in omega arith))))
    (λ k.
    let same : q ≡ p = omega arith in
    rw same (ap (λ (x : ℕ). get_or after (x * bits + e) 0) (sym a) ∙ c.put e b))

-- ---- the votes of a slot

-- where item i of a slot stands in its group
abbrev pub slot_order : Layout → ℕ → ℕ → ℕ
slot_order L k i = group_order L k (i / L.bits) * L.bits + i % L.bits

module _ (L : Layout) (z : Slotted L) (k g : ℕ) where
  slot-permutes : Permutes (group_bits L) (slot_order L k)
  slot-permutes =
      rows-permute (group_carriers L) L.bits (group_order L k) (λ i e. e) z.laid.sound.bits_pos (group-permutes L z.laid.sound k) (λ i h. in_order L.bits)

  slot-votes : (items group : List ℕ) → ((i : ℕ) → i < group_bits L → get_or group (slot_order L k i) 0 ≡ get_or items i 0) → (b v : ℕ)
      → votes (group_bits L) (group_on L k g) group b v ≡ votes (group_bits L) (slot_on L k g) items b v
  unfolding votes count slot_on group_on carries_on
  slot-votes items group w b v =
      let h : ℕ → ℕ = λ x. cond (group_on L k g x b && eqb (get_or group x 0) v) 1 0 in
      sym (sum-permuted (group_bits L) (slot_order L k) slot-permutes h)
      ∙ count-ext (group_bits L) _ _ (λ i l. ap₂ (λ (a c : ℕ). eqb a b && eqb c v) (sym (slot_at L k g i)) (w i l))

  pub slot_counted : (items group counters later : List ℕ) → ((i : ℕ) → i < group_bits L → get_or group (slot_order L k i) 0 ≡ get_or items i 0)
      → later ≡ counted L.coded (group_bits L) (group_on L k g) group counters
      → later ≡ counted L.coded (group_bits L) (slot_on L k g) items counters
  unfolding counted
  slot_counted items group counters later w e =
      e
      ∙ tabulate-ext L.coded _ _
      (λ b l. ap₂ (λ (ones zeros : ℕ). (get_or counters b 0 + ones + 255 * zeros) % 256) (slot-votes items group w b 1) (slot-votes items group w b 0))

  module _ (order : List ℕ) (o : Order L k order) where
    -- the slot's carriers are back in order
    pub slot-spread : (items group : List ℕ) → Spread L.bits (length order) order items group
        → (i : ℕ) → i < group_bits L → get_or group (slot_order L k i) 0 ≡ get_or items i 0
    slot-spread items group w i h =
        let b : 0 < L.bits = z.laid.sound.bits_pos in
        let p : i / L.bits < group_carriers L = (div-lt_iff_lt-mul {k = L.bits} b).1 h in
        ap (λ (a : ℕ). get_or group (a * L.bits + i % L.bits) 0) (sym (o.at (i / L.bits) p))
        ∙ w (i / L.bits) (i % L.bits) (omega (arith, o.long)) (mod-lt i b)
        ∙ ap (λ (x : ℕ). get_or items x 0) (div-add-mod' i L.bits)

    -- an order is a permutation
    pub order-permutes : Permutes (length order) (λ p. get_or order p 0)
    order-permutes = rw o.long (permutes-ext (group_order L k) (λ p. get_or order p 0) o.at (group-permutes L z.laid.sound k))
