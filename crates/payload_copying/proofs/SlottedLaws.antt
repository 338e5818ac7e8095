-- Numbers of a layout of more than one copy. Assumes nothing.
use mathlib.Core.Path.{◌≡◌, refl, sym, ap, ◌∙◌}
use mathlib.Core.List.{List}
use Prim.Native.Nat.{ℕ, ◌+◌, ◌*◌, ◌<◌, ◌≤◌}
use native.Mathlib.Nat.{mul_assoc, mul_comm, mul-pos, le-mul_of_pos_right}
use native.Mathlib.Omega.{arith}
use lib.ListN.{length, get_or, replicate, length-replicate}
use Rattle.bits.specs.Lists.{written}
use Rattle.bits.proofs.NumberLaws.{lt-cases, row_next, row_within}
use Rattle.bits.proofs.ListLaws.{get_or-written, length-written}
use Rattle.payload_layout.specs.declared.Layout.{Layout}
use Rattle.payload_layout.specs.Layouts.{group_carriers, used_carriers, group_bits, symbol_items, items}
use Rattle.payload_copying.specs.Loops.Slots.{Slotted, address, Addresses}

module _ (L : Layout) (s : Slotted L) where
  -- a group's bits, and the carriers that all copies use
  pub group-few : group_bits L ≤ 816
  group-few = s.laid.small.group-in s.more

  pub used-few : used_carriers L ≤ 410
  used-few = s.laid.small.used-in s.more

  pub used-product : L.copies * L.interleavers * L.span ≡ used_carriers L
  used-product = mul_assoc L.copies L.interleavers L.span

  pub addresses-of : (table : List ℕ) → table ≡ written (used_carriers L) (address L) (replicate 410 0) → Addresses L table
  addresses-of table e =
      let all = length-replicate {A = ℕ} 410 0 in
      record {
        long = ap length e ∙ length-written (used_carriers L) (address L) (replicate 410 0) (omega (arith, all, used-few)) ∙ all;
        at = λ u h. ap (λ (t : List ℕ). get_or t u 0) e ∙ get_or-written (used_carriers L) (address L) (replicate 410 0) u 0 h;
      }

  -- symbols, and the items of one
  pub symbols-few : L.symbols < 1048576
  unfolding items
  symbols-few =
      omega (
        arith,
        s.laid.small.items-in,
        le-mul_of_pos_right {m = symbol_items L} L.symbols some,
      )
    where
      some : 0 < symbol_items L
      some =
          mul-pos
          (omega (
            arith,
            s.laid.sound.there,
            mul-pos s.laid.sound.copies-pos (mul-pos s.laid.sound.interleavers-pos s.laid.sound.span_pos),
          ))
          s.laid.sound.bits_pos

  pub items-rows : items L ≡ L.symbols * symbol_items L
  unfolding items
  items-rows = refl

  pub symbol-few : symbol_items L < 1048576
  unfolding items
  symbol-few =
      omega (
        arith,
        s.laid.small.items-in,
        le-mul_of_pos_right {m = L.symbols} (symbol_items L) s.laid.sound.symbols-pos,
        mul_comm (symbol_items L) L.symbols,
      )

  -- a copy's groups, orders and pads
  pub padded-whole : L.symbols * group_bits L ≡ L.coded + L.pad
  padded-whole = sym (mul_assoc L.symbols (group_carriers L) L.bits) ∙ s.laid.sound.full

  pub group-within : (g : ℕ) → g < L.symbols → g * group_bits L + group_bits L ≤ L.coded + L.pad
  group-within g h = omega (arith, row_within g (group_bits L) L.symbols h, padded-whole)

  pub order-within : (k : ℕ) → k < L.copies → k * group_carriers L + group_carriers L ≤ 410
  order-within k h = omega (arith, row_within k (group_carriers L) L.copies h, used-few)

  pub pad-within : (k : ℕ) → k < L.copies → k * L.pad + L.pad ≤ L.coded
  pad-within k h = omega (arith, row_within k L.pad L.copies h, s.laid.within)

  pub group-from : (g : ℕ) → g < L.symbols → g * group_bits L ≤ L.coded
  group-from g h = omega (arith, group-within g h, s.laid.sound.pad-in)

  -- a group that is not all data is the last
  pub group-last : (g : ℕ) → g < L.symbols → L.coded < g * group_bits L + group_bits L → g * group_bits L + group_bits L ≡ L.coded + L.pad
  group-last g h l =
      lt-cases (g + 1) L.symbols
      (λ k. absurd (omega (arith, row_next g (group_bits L), group-within (g + 1) k, s.laid.sound.pad-in)))
      (λ k.
      let e : g + 1 ≡ L.symbols = omega arith in
      omega (arith, row_next g (group_bits L), ap (λ (x : ℕ). x * group_bits L) e, padded-whole))
