-- The bench checks of paper 01 that are marked P, and of paper 02 copies on its bands, the second card and the copied payload (the shifts
-- that source 000 lists, and a worked example): what the rules give beside what is printed, under one claim. Assumes nothing.
use Rattle.std.specs.Prelude.{List, [], ◌∷◌, ◌++◌, ◌≡◌, refl, ℕ, ◌+◌, ◌-◌, ◌*◌, ◌/◌, replicate}
use Prim.{Unit}
use Rattle.bits.specs.Bits.{bit_of, pack, byte_of, field, bytes_of}
use Rattle.bits.specs.Lists.{tabulate, lowest}
use Rattle.bits.specs.Sums.{sum, count}
use Rattle.refusal.specs.Report.{Report, done, refused, number}
use Rattle.card.specs.declared.Card.{Card}
use Rattle.card.specs.Card.{fields_of, card_of, padding_of, copy_code, bytes_of_card}
use Rattle.card.specs.Modes.{defined_mode}
use Rattle.card.specs.Entries.{read_card}
use Rattle.written_card.specs.Entries.{move_card}
use Rattle.printed_card.specs.Text.{mode_lines, count_lines, card_lines, card_text}
use Rattle.text.specs.Text.{ascii, places, decimal, binary}
use Rattle.scrambler.specs.Scrambler.{feedback, shifted, after_shifts, scrambler_bit, all_ones}
use Rattle.constituent.specs.Encoder.{plus, start_of}
use Rattle.pair_interleaver.specs.Interleave.{source_pair_by, source_pair}
use Rattle.interleaver.specs.Rows.{pass_length, pass, passes, pass_row}
use Rattle.interleaver.specs.Source.{column}
use Rattle.address_interleaver.specs.Addresses.{out_addr}
use Rattle.votes.specs.Votes.{carries, copies}
use Rattle.bands.specs.Bands.{offsets, carriers}
use Rattle.diversity.specs.Lanes.{lane_bit, carrier_count, item_count}
use Rattle.diversity.specs.Copies.{copies_of, copies_on}
use Rattle.payload_layout.specs.declared.Layout.{Layout}
use Rattle.payload_layout.specs.Layouts.{span_of, used_of, group_of, last_symbol_bits, last_group_bits, pad_bits, shift_run, shift_step, layout_by, layout_for, layout_of, items, used_carriers, group_bits}
use Rattle.payload_layout.specs.Items.{padded, group_order, copy_order, copied_bit, carried}

-- a report of a card as numbers: 0 and its fields, or the refusal and its values
abbrev numbers : Report Card → List ℕ
numbers (done c) = 0 ∷ fields_of c
numbers (refused n v w) = n ∷ v ∷ w ∷ []

-- the bits on lanes I and Q at a place of a symbol, counted from 1
abbrev lanes_at : ℕ → ℕ → ℕ → List ℕ
lanes_at band symbol c =
    let n = 2 * ((symbol - 1) * carriers band + c) in
    lane_bit (carriers band) (offsets band) n ∷ lane_bit (carriers band) (offsets band) (n + 1) ∷ []

-- the columns that the four bits of nibble n of the joined stream come from, as they go out
abbrev turn_of : ℕ → List ℕ
turn_of n = column n 0 ∷ column n 1 ∷ column n 2 ∷ column n 3 ∷ []

-- the example card
abbrev example_card : List ℕ
example_card = 0x12 ∷ 0x58 ∷ 0x8E ∷ 0x00 ∷ 0x20 ∷ 0x00 ∷ 0x00 ∷ 0x00 ∷ 0x00 ∷ 0x00 ∷ 0x01 ∷ []

-- the same card in version 2
abbrev second_card : List ℕ
second_card = 0x22 ∷ 0x58 ∷ 0x8E ∷ 0x00 ∷ 0x00 ∷ 0x20 ∷ 0x00 ∷ 0x00 ∷ 0x00 ∷ 0x00 ∷ 0x00 ∷ 0x01 ∷ []

-- that card with two copies
abbrev copied_card : List ℕ
copied_card = 0x22 ∷ 0x58 ∷ 0x8E ∷ 0x08 ∷ 0x00 ∷ 0x20 ∷ 0x00 ∷ 0x00 ∷ 0x00 ∷ 0x00 ∷ 0x00 ∷ 0x01 ∷ []

-- GroupShiftNum, where the last symbol's bits fill so many groups
abbrev shifts_of : ℕ → ℕ → List ℕ
shifts_of copies groups = tabulate copies (λ k. k / shift_run copies groups 1)

-- 72 bytes twice as QPSK on band 0, and the first bit on a place of a symbol, both counted from 0
abbrev twice : Layout
twice = layout_of 0 1 2 1152

abbrev first_bit : ℕ → ℕ → ℕ
first_bit symbol place = carried twice (2 * (symbol * 411 + place))

-- what the rule gives, and what is printed
abbrev pub checks : List (List ℕ × List ℕ)
checks =
    -- P1: the first sixteen scrambler bits
    (byte_of (scrambler_bit all_ones) 0 ∷ byte_of (scrambler_bit all_ones) 1 ∷ [], 0x1C ∷ 0x4E ∷ [])
    -- P2: size 16, I(0), I(8) and I(63)
    ∷ (source_pair 0 0 ∷ source_pair 0 8 ∷ source_pair 0 63 ∷ [], 53 ∷ 45 ∷ 26 ∷ [])
    -- P3: size 72, I(18)
    ∷ (source_pair 1 18 ∷ [], 271 ∷ [])
    -- P4 and P5: SN 100 at sizes 16 and 136
    ∷ (start_of 0 0b100 ∷ [], 0b001 ∷ [])
    ∷ (start_of 2 0b100 ∷ [], 0b011 ∷ [])
    -- P6: nibble 2 goes out b3 b0 b1 b2, and nibble 8 unturned
    ∷ (turn_of 2, 3 ∷ 0 ∷ 1 ∷ 2 ∷ [])
    ∷ (turn_of 8, 0 ∷ 1 ∷ 2 ∷ 3 ∷ [])
    -- P7 and P8: band 0, symbol 2 at place 64, and symbol 1 at place 410
    ∷ (lanes_at 0 2 64, 0 ∷ 128 ∷ [])
    ∷ (lanes_at 0 1 410, 154 ∷ 26 ∷ [])
    -- P9 and P10: copies on bands 0 and 1
    ∷ (copies_on 0 0 ∷ copies_on 0 27 ∷ [], 13 ∷ 12 ∷ [])
    ∷ (copies_on 1 0 ∷ copies_on 1 3 ∷ [], 13 ∷ 12 ∷ [])
    -- and on bands 2 and 3: a bit with the fewest and one with the most
    ∷ (copies_on 2 1 ∷ copies_on 2 56 ∷ [], 7 ∷ 10 ∷ [])
    ∷ (copies_on 3 1 ∷ copies_on 3 48 ∷ [], 3 ∷ 7 ∷ [])
    -- P11: the example card, read and printed
    ∷ (numbers (read_card example_card), 0 ∷ 1 ∷ 0 ∷ 4 ∷ 1 ∷ 1 ∷ 0b10001000111 ∷ 0 ∷ 9_007_199_254_740_993 ∷ 1 ∷ 1 ∷ [])
    ∷ (
      card_text example_card,
      ascii "version 1\nband 0\nkind 4\nrate 1\nmodulation 1\ntaps 10001000111\nserial 9007199254740993\n",
    )
    -- and in version 2: read, printed, and moved there and back
    ∷ (numbers (read_card second_card), 0 ∷ 2 ∷ 0 ∷ 4 ∷ 1 ∷ 1 ∷ 0b10001000111 ∷ 0 ∷ 9_007_199_254_740_993 ∷ 1 ∷ 1 ∷ [])
    ∷ (
      card_text second_card,
      ascii "version 2\nband 0\nkind 4\nrate 1\nmodulation 1\ntaps 10001000111\nblocks 1\ncopies 1\nserial 9007199254740993\n",
    )
    ∷ ((move_card example_card 2 (replicate 12 0)).out, second_card)
    ∷ ((move_card second_card 1 (replicate 11 0)).out, example_card)
    -- P12: band 0, QPSK, 4,680 coded bits: symbols and pad
    ∷ ((layout_of 0 1 1 4680).symbols ∷ (layout_of 0 1 1 4680).pad ∷ [], 6 ∷ 252 ∷ [])
    -- version 1 can't say two copies
    ∷ (number (move_card copied_card 1 (replicate 11 0)).report ∷ [], 11 ∷ [])
    -- the shifts as 5.1.5.5.4 lists them
    ∷ (shifts_of 2 1 ++ shifts_of 2 2, 0 ∷ 0 ∷ 0 ∷ 1 ∷ [])
    ∷ (shifts_of 4 1 ++ shifts_of 4 2, 0 ∷ 0 ∷ 0 ∷ 0 ∷ 0 ∷ 0 ∷ 1 ∷ 1 ∷ [])
    ∷ (shifts_of 4 3 ++ shifts_of 4 4, 0 ∷ 0 ∷ 0 ∷ 0 ∷ 0 ∷ 1 ∷ 2 ∷ 3 ∷ [])
    ∷ (shifts_of 5 4 ++ shifts_of 5 5, 0 ∷ 0 ∷ 0 ∷ 0 ∷ 0 ∷ 0 ∷ 1 ∷ 2 ∷ 3 ∷ 4 ∷ [])
    ∷ (shifts_of 7 6 ++ shifts_of 7 7, 0 ∷ 0 ∷ 0 ∷ 0 ∷ 0 ∷ 0 ∷ 0 ∷ 0 ∷ 1 ∷ 2 ∷ 3 ∷ 4 ∷ 5 ∷ 6 ∷ [])
    ∷ (
      shifts_of 11 10 ++ shifts_of 11 11,
      0 ∷ 0 ∷ 0 ∷ 0 ∷ 0 ∷ 0 ∷ 0 ∷ 0 ∷ 0 ∷ 0 ∷ 0 ∷ 0 ∷ 1 ∷ 2 ∷ 3 ∷ 4 ∷ 5 ∷ 6 ∷ 7 ∷ 8 ∷ 9 ∷ 10 ∷ [],
    )
    -- a worked example (D27): used carriers, bits of a group, pad, symbols and items; and bits on places of symbols 0 and 1
    ∷ (
      used_carriers twice ∷ group_bits twice ∷ twice.pad ∷ twice.symbols ∷ items twice ∷ [],
      408 ∷ 408 ∷ 72 ∷ 3 ∷ 2466 ∷ [],
    )
    ∷ (
      first_bit 0 0 ∷ first_bit 0 1 ∷ first_bit 0 26 ∷ first_bit 0 51 ∷ first_bit 0 204 ∷ first_bit 1 204 ∷ [],
      0 ∷ 4 ∷ 2 ∷ 172 ∷ 408 ∷ 92 ∷ [],
    )
    ∷ []

-- each row agrees
abbrev pub Agree : List (List ℕ × List ℕ) → Type 0
Agree [] = Unit {0}
Agree (row ∷ rows) = (row.0 ≡ row.1) × Agree rows

pub checks-agree : Agree checks
unfolding move_card card_text card_lines mode_lines count_lines decimal binary places lowest tabulate read_card card_of padding_of copy_code bytes_of_card bytes_of defined_mode field pack byte_of bit_of feedback shifted after_shifts scrambler_bit start_of source_pair offsets carriers carrier_count item_count lane_bit carries copies copies_of sum count source_pair_by plus layout_of layout_for layout_by span_of used_of group_of last_symbol_bits last_group_bits pad_bits shift_run shift_step items padded group_order copy_order copied_bit carried out_addr pass_row passes pass pass_length
checks-agree = (refl, (refl, (refl, (refl, (refl, (refl, (refl, (refl, (refl, (refl, (refl, (refl, (refl, (refl, (refl, (refl, (refl, (refl, (refl, (refl, (refl, (refl, (refl, (refl, (refl, (refl, (refl, (refl, (refl, tt)))))))))))))))))))))))))))))
