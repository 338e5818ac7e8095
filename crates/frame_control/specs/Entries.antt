-- What sending and reading a frame control answer and leave in lent memory, for all inputs, by the rows of paper 01's table: over the
-- carriers of a symbol and the offsets, which at the entries are those of the card's band. They serve kind 0. Assumes nothing.
use Rattle.std.specs.Prelude.{not, List, [], ◌∷◌, ◌++◌, ℕ, eqb, ltb, length, drop}
use Rattle.bits.specs.Bits.{bit_of, bytes_of}
use Rattle.bits.specs.Lists.{written, first_above}
use Rattle.refusal.specs.declared.Refusal.TheVariants.{Length, Room, Item}
use Rattle.refusal.specs.Outcome.{Row, row, Outcome, outcome}
use Rattle.card.specs.Card.{card_of}
use Rattle.card.specs.Gate.{gate_rows}
use Rattle.fec.specs.Coding.{coded_bit}
use Rattle.recovery.specs.Recovery.{data_bit, recover_rows}
use Rattle.votes.specs.Votes.{carries, decided}
use Rattle.bands.specs.Bands.{carriers, offsets}
use Rattle.diversity.specs.Lanes.{lane_bit, item_count}

-- the carriers of a symbol and the offsets that the card in some bytes names by its band, the items that they make, and its taps
abbrev pub carriers_of : List ℕ → ℕ
carriers_of card = carriers (card_of card).band

abbrev pub offsets_of : List ℕ → List ℕ
offsets_of card = offsets (card_of card).band

abbrev pub item_count_of : List ℕ → ℕ
item_count_of card = item_count (carriers_of card) (offsets_of card)

abbrev pub taps_of : List ℕ → ℕ
taps_of card = (card_of card).taps

-- ---- sending

-- item n: a copy of the coded bit that its lane carries
unfoldable pub sent_item : ℕ → List ℕ → ℕ → List ℕ → ℕ → ℕ
sent_item carriers offsets taps word n = coded_bit 0 0 taps (bit_of word) (lane_bit carriers offsets n)

-- the rows behind those of the card
abbrev pub word_rows : ℕ → List ℕ → List ℕ → List ℕ → List Row
word_rows carriers offsets word out =
    row (not (eqb (length word) 16)) (Length (length word))
    ∷ row (ltb (length out) (item_count carriers offsets)) (Room (item_count carriers offsets))
    ∷ []

-- a word by carriers, offsets and taps, and by the card in some bytes
unfoldable pub send_by : ℕ → List ℕ → ℕ → List ℕ → List ℕ → Outcome ℕ (List ℕ)
send_by carriers offsets taps word out =
    outcome (word_rows carriers offsets word out) out (item_count carriers offsets) (written (item_count carriers offsets) (sent_item carriers offsets taps word) out)

unfoldable pub send : List ℕ → List ℕ → List ℕ → Outcome ℕ (List ℕ)
send card word out =
    outcome (gate_rows 0 0 card ++ word_rows (carriers_of card) (offsets_of card) word out) out (item_count_of card) (written (item_count_of card) (sent_item (carriers_of card) (offsets_of card) (taps_of card) word) out)

-- ---- reading

-- each coded bit by strict majority of its copies: 2 where there is none
abbrev pub decided_bit : ℕ → List ℕ → List ℕ → ℕ → ℕ
decided_bit carriers offsets items = decided (item_count carriers offsets) (carries (lane_bit carriers offsets)) items

-- the rows behind those of the card: about the items, and about what they decide
abbrev pub item_rows : ℕ → List ℕ → List ℕ → List ℕ → List Row
item_rows carriers offsets items out =
    row (not (eqb (length items) (item_count carriers offsets))) (Length (length items))
    ∷ row (ltb (length out) 16) (Room 16)
    ∷ row (ltb (first_above 2 items) (length items)) (Item (first_above 2 items))
    ∷ []

abbrev pub read_rows : ℕ → List ℕ → ℕ → List ℕ → List ℕ → List Row
read_rows carriers offsets taps items out = item_rows carriers offsets items out ++ recover_rows 0 0 taps (decided_bit carriers offsets items)

-- items by carriers, offsets and taps, and by the card in some bytes
unfoldable pub read_by : ℕ → List ℕ → ℕ → List ℕ → List ℕ → Outcome ℕ (List ℕ)
read_by carriers offsets taps items out =
    outcome (read_rows carriers offsets taps items out) out 16 (bytes_of 16 (data_bit 0 0 (decided_bit carriers offsets items)) ++ drop 16 out)

unfoldable pub read : List ℕ → List ℕ → List ℕ → Outcome ℕ (List ℕ)
read card items out =
    outcome (gate_rows 0 0 card ++ read_rows (carriers_of card) (offsets_of card) (taps_of card) items out) out 16 (bytes_of 16 (data_bit 0 0 (decided_bit (carriers_of card) (offsets_of card) items)) ++ drop 16 out)
