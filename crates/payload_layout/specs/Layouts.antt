-- The numbers of a payload's layout: paper 01's for one copy, and those of 5.1.5.5.2 to 5.1.5.5.5 of source 000, whose names stand in
-- the comments. Assumes nothing.
use Rattle.std.specs.Prelude.{cond, List, [], ◌∷◌, ℕ, ◌+◌, ◌-◌, ◌*◌, ◌/◌, ◌%◌, eqb, ltb, leb, get_or}
use Rattle.card.specs.Card.{copy_code}
use Rattle.card.specs.Modes.{carrier_bits}
use Rattle.bands.specs.Bands.{carriers}
use Rattle.payload_layout.specs.declared.Layout.{Layout}

-- ---- Table 13, by the code of CopyNum, with a column for one copy

-- InterNum: the address interleavers of all copies
abbrev pub inter_num : List ℕ
inter_num = 1 ∷ 8 ∷ 8 ∷ 10 ∷ 14 ∷ 11 ∷ []

abbrev pub all_interleavers : ℕ → ℕ
all_interleavers copies = get_or inter_num (copy_code copies) 0

-- InterNumPerGroup: those of a group
abbrev pub inter_num_per_group : List ℕ
inter_num_per_group = 1 ∷ 4 ∷ 2 ∷ 2 ∷ 2 ∷ 1 ∷ []

abbrev pub group_interleavers : ℕ → ℕ
group_interleavers copies = get_or inter_num_per_group (copy_code copies) 0

-- ---- 5.1.5.5.3, of so many carriers (ValidCarrierNum) and copies (CopyNum)

-- CarrierNumPerInter: the carriers of an interleaver, its span
unfoldable pub span_of : ℕ → ℕ → ℕ
span_of carriers copies = carriers / all_interleavers copies

-- UsedCarrierNum
unfoldable pub used_of : ℕ → ℕ → ℕ
used_of carriers copies = all_interleavers copies * span_of carriers copies

-- CarrierNumPerGroup
unfoldable pub group_of : ℕ → ℕ → ℕ
group_of carriers copies = used_of carriers copies / copies

-- BitsInLastOFDM, where a symbol has O bits (BitsPerOFDM)
unfoldable pub last_symbol_bits : ℕ → ℕ → ℕ
last_symbol_bits O coded = cond (eqb (coded % O) 0) O (coded % O)

-- BitsInLastGroup, where a group has G bits (BitsPerGroup)
unfoldable pub last_group_bits : ℕ → ℕ → ℕ → ℕ
last_group_bits O G coded = cond (eqb (coded % O) 0) G (coded % O - G * ((coded % O - 1) / G))

-- PadBitsNum
unfoldable pub pad_bits : ℕ → ℕ → ℕ → ℕ
pad_bits O G coded = G - last_group_bits O G coded

-- ---- 5.1.5.5.4: GroupShiftNum of copy k is k / shift_run, since a run of copies has one shift: all of them, two and two, or each its own

unfoldable pub shift_run : ℕ → ℕ → ℕ → ℕ
shift_run copies last G =
    cond (eqb copies 4)
    (cond (leb last G) 4 (cond (leb last (2 * G)) 2 (cond (leb last (3 * G)) 4 1)))
    (cond (leb last ((copies - 1) * G)) copies 1)

-- ---- 5.1.5.5.5: InterShiftStep, by the listing's cases: rounded down to 0 or a power of two. It has none from 16 on, and no band comes
-- there. One copy is not interleaved.

abbrev pub rounded_down : ℕ → ℕ
rounded_down s = cond (ltb s 1) 0 (cond (ltb s 2) 1 (cond (ltb s 4) 2 (cond (ltb s 8) 4 (cond (ltb s 16) 8 s))))

unfoldable pub shift_step : ℕ → ℕ → ℕ
shift_step carriers copies = cond (eqb copies 1) 0 (rounded_down (span_of carriers copies / (2 * all_interleavers copies)))

-- ---- the layout

-- of so many coded bits, where a symbol's used carriers have O bits and a group G. A copy has as many groups as there are symbols, since
-- a symbol has room for as many groups as there are copies.
unfoldable pub layout_by : ℕ → ℕ → ℕ → ℕ → ℕ → ℕ → Layout
layout_by carriers bits copies coded O G =
    record {
      carriers = carriers;
      bits = bits;
      symbols = (coded + pad_bits O G coded) / G;
      coded = coded;
      pad = pad_bits O G coded;
      copies = copies;
      run = shift_run copies (last_symbol_bits O coded) G;
      interleavers = group_interleavers copies;
      span = span_of carriers copies;
      step = shift_step carriers copies;
    }

-- of carriers, bits a carrier (BPC), copies and coded bits (DataBitsLen)
unfoldable pub layout_for : ℕ → ℕ → ℕ → ℕ → Layout
layout_for carriers bits copies coded = layout_by carriers bits copies coded (bits * used_of carriers copies) (bits * group_of carriers copies)

-- of a band and a modulation
unfoldable pub layout_of : ℕ → ℕ → ℕ → ℕ → Layout
layout_of band modulation copies coded = layout_for (carriers band) (carrier_bits modulation) copies coded

-- ---- what a layout has

-- the items of a symbol, and of all: those on unused carriers too
abbrev pub symbol_items : Layout → ℕ
symbol_items L = L.carriers * L.bits

unfoldable pub items : Layout → ℕ
items L = L.symbols * symbol_items L

-- the most items of a payload: 520 bytes at rate 1/2 on band 3, eleven times
abbrev pub most_items : ℕ
most_items = 101920

-- the carriers of a group, the used carriers of a symbol, and the carriers of a whole copy
abbrev pub group_carriers : Layout → ℕ
group_carriers L = L.interleavers * L.span

abbrev pub used_carriers : Layout → ℕ
used_carriers L = L.copies * group_carriers L

abbrev pub copy_carriers : Layout → ℕ
copy_carriers L = L.symbols * group_carriers L

-- the bits of a group
abbrev pub group_bits : Layout → ℕ
group_bits L = group_carriers L * L.bits
