-- Slots: a symbol has room for as many groups of carriers as there are copies, and these slots count on over the symbols. Slot t is position
-- t % symbols of copy t / symbols. Assumes nothing.
use Rattle.std.specs.Prelude.{◌≡◌, true, false, Option, MatchOption, List, ℕ, ◌+◌, ◌-◌, ◌*◌, ◌/◌, ◌%◌, ◌<◌, ◌≤◌, get_or, length}
use Rattle.address_interleaver.specs.Addresses.{circshift}
use Rattle.address_interleaver.specs.Loops.Table.{address_of}
use Rattle.payload_layout.specs.declared.Layout.{Layout}
use Rattle.payload_layout.specs.Layouts.{group_carriers, used_carriers, group_bits, symbol_items, items}
use Rattle.payload_layout.specs.Loops.Bounds.{Laid}
use Rattle.payload_layout.specs.Items.{group_order, padded, used, carried}
use Rattle.payload_copying.specs.declared.Place.{Place}
use Rattle.payload_copying.specs.declared.Slot.{Slot}

-- a layout of more than one copy
pub record Slotted (L : Layout) : Type 0 where
  pub laid : Laid L
  pub more : 1 < L.copies

-- address u of all interleavers side by side, in its group
abbrev pub address : Layout → ℕ → ℕ
address L = address_of L.interleavers L.span L.step

-- the table of all addresses
pub record Addresses (L : Layout) (table : List ℕ) : Type 0 where
  pub long : length table ≡ 410
  pub at : (u : ℕ) → u < used_carriers L → get_or table u 0 ≡ address L u

-- the addresses of copy k's interleavers: each slot of the copy takes the carriers of its group in this order
pub record Order (L : Layout) (k : ℕ) (order : List ℕ) : Type 0 where
  pub long : length order ≡ group_carriers L
  pub at : (p : ℕ) → p < group_carriers L → get_or order p 0 ≡ group_order L k p

-- the coded bit on item i of a slot in which group g of copy k stands
unfoldable pub slot_bit : Layout → ℕ → ℕ → ℕ → ℕ
slot_bit L k g i = padded L k ((g * group_carriers L + group_order L k (i / L.bits)) * L.bits + i % L.bits)

-- the number of the slot at a place, and that the group which the place names stands there
abbrev pub slot_no : Layout → Place → ℕ
slot_no L p = p.copy * L.symbols + p.position

pub record Standing (L : Layout) (p : Place) : Type 0 where
  pub position_in : p.position < L.symbols
  pub group-is : p.group ≡ circshift L.symbols (p.copy / L.run) p.position

-- a walk over all slots has come to lane j of symbol y, which is at place p and has its first item at n
pub record Walking (L : Layout) (p : Place) (y j n : ℕ) : Type 0 where
  pub standing : Standing L p
  pub number : slot_no L p ≡ y * L.copies + j
  pub lane_in : j < L.copies
  pub number_in : y * L.copies + j ≤ L.symbols * L.copies
  pub start-is : n ≡ y * symbol_items L + j * group_bits L

-- a slot of the walk: its first items carry the bits of its group, and the others nothing
pub record Carries (L : Layout) (s : Slot) : Type 0 where
  pub copy_in : s.copy < L.copies
  pub group-in : s.group < L.symbols
  pub room : s.start + group_bits L ≤ s.end
  pub end_in : s.end ≤ items L
  pub in-use : (i : ℕ) → i < group_bits L → used L (s.start + i) ≡ true
  pub bit-is : (i : ℕ) → i < group_bits L → carried L (s.start + i) ≡ slot_bit L s.copy s.group i
  pub unused : (n : ℕ) → s.start + group_bits L ≤ n → n < s.end → used L n ≡ false

-- what a walk gives that has come to item n: a slot from there on, and where the next one starts, or nothing at the end
abbrev pub Gives : Layout → ℕ → Option Slot → ℕ → Type 0
Gives L n r next = MatchOption r (n ≡ items L) (λ s. Carries L s × (s.start ≡ n) × (s.end ≡ next))

-- n bytes of `src` from `from` on are copied to `to`
pub record Copied (n : ℕ) (src : List ℕ) (from to : ℕ) (before after : List ℕ) : Type 0 where
  pub long : length after ≡ length before
  pub put : (e : ℕ) → e < n → get_or after (to + e) 0 ≡ get_or src (from + e) 0
  pub under : (i : ℕ) → i < to → get_or after i 0 ≡ get_or before i 0
  pub over : (i : ℕ) → to + n ≤ i → get_or after i 0 ≡ get_or before i 0

-- item i of a run whose carriers are taken from `src` in the given order
unfoldable pub taken : ℕ → List ℕ → List ℕ → ℕ → ℕ
taken bits order src i = get_or src (get_or order (i / bits) 0 * bits + i % bits) 0

-- the rest of the data from `from` on, and the pad after it
abbrev pub LastGroup : ℕ → ℕ → ℕ → List ℕ → List ℕ → Type 0
LastGroup from pad_from pad coded r =
    ((x : ℕ) → from + x < length coded → get_or r x 0 ≡ get_or coded (from + x) 0)
    × ((y : ℕ) → y < pad → get_or r (length coded - from + y) 0 ≡ get_or coded (pad_from + y) 0)
