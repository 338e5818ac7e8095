-- Which coded bit each item of a payload carries (paper 01, Carriers, for one copy; 5.1.5.5.1 and 5.1.5.5.6 of source 000 for more). Items run
-- by symbol, place and bit in the carrier, and the copies stand on the used carriers one after another. The entries know a layout by
-- `items`, `carries` and `sent_on`. Everything counts from 0. Assumes nothing.
use Rattle.std.specs.Prelude.{Bool, cond, ◌&&◌, ℕ, ◌+◌, ◌-◌, ◌*◌, ◌/◌, ◌%◌, eqb, ltb}
use Rattle.address_interleaver.specs.Addresses.{circshift, out_addr}
use Rattle.payload_layout.specs.declared.Layout.{Layout}
use Rattle.payload_layout.specs.Layouts.{group_carriers, used_carriers, copy_carriers}

-- bit x of the padded data of copy k: the coded bits in order, and then the copy's own pads
unfoldable pub padded : Layout → ℕ → ℕ → ℕ
padded L k x = cond (ltb x L.coded) x (k * L.pad + (x - L.coded))

-- the carrier of a group that stands at place p of its slot in copy k: each span by its own interleaver, numbered on over the copies
unfoldable pub group_order : Layout → ℕ → ℕ → ℕ
group_order L k p = p / L.span * L.span + out_addr L.span L.step (k * L.interleavers + p / L.span) (p % L.span)

-- the carrier of the padded data that stands at carrier p of copy k: the groups are shifted whole, by GroupShiftNum
unfoldable pub copy_order : Layout → ℕ → ℕ → ℕ
copy_order L k p =
    circshift L.symbols (k / L.run) (p / group_carriers L) * group_carriers L + group_order L k (p % group_carriers L)

-- bit e of used carrier u, counted on over the symbols: the copies one after another
unfoldable pub copied_bit : Layout → ℕ → ℕ → ℕ
copied_bit L u e = padded L (u / copy_carriers L) (copy_order L (u / copy_carriers L) (u % copy_carriers L) * L.bits + e)

-- the symbol of item n, and its place there
abbrev pub symbol_of : Layout → ℕ → ℕ
symbol_of L n = n / L.bits / L.carriers

abbrev pub place_of : Layout → ℕ → ℕ
place_of L n = n / L.bits % L.carriers

-- item n is on a used carrier: the low places are used, and the top ones carry nothing
unfoldable pub used : Layout → ℕ → Bool
used L n = ltb (place_of L n) (used_carriers L)

-- the coded bit of item n, where it is on a used carrier
unfoldable pub carried : Layout → ℕ → ℕ
carried L n = copied_bit L (symbol_of L n * used_carriers L + place_of L n) (n % L.bits)

-- item n carries bit b
unfoldable pub carries : Layout → ℕ → ℕ → Bool
carries L n b = used L n && eqb (carried L n) b

-- what item n sends of the coded bits d: 0 where it carries nothing
unfoldable pub sent_on : Layout → (ℕ → ℕ) → ℕ → ℕ
sent_on L d n = cond (used L n) (d (carried L n)) 0
