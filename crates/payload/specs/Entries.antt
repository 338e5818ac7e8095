-- What sending and reading a payload block answer and leave in lent memory, for all inputs, by the rows of paper 01's table.
-- They serve kinds 1 to 4. Assumes nothing.
use Rattle.std.specs.Prelude.{not, List, [], ◌∷◌, ◌++◌, ℕ, eqb, ltb, length, drop}
use Rattle.bits.specs.Bits.{bit_of, bytes_of}
use Rattle.bits.specs.Lists.{written, first_above}
use Rattle.refusal.specs.declared.Refusal.TheVariants.{Length, Room, Item}
use Rattle.refusal.specs.Outcome.{Row, row, Outcome, outcome}
use Rattle.card.specs.declared.Card.{Card}
use Rattle.card.specs.Card.{card_of}
use Rattle.card.specs.Modes.{block_bytes}
use Rattle.card.specs.Gate.{gate_rows}
use Rattle.scrambler.specs.Scrambler.{scrambled}
use Rattle.interleaver_shape.specs.Shapes.{coded_bits}
use Rattle.fec.specs.Coding.{coded_bit}
use Rattle.recovery.specs.Recovery.{data_bit, recover_rows}
use Rattle.votes.specs.Votes.{decided}
use Rattle.payload_layout.specs.declared.Layout.{Layout}
use Rattle.payload_layout.specs.Layouts.{layout_of, items}
use Rattle.payload_layout.specs.Items.{carries, sent_on}

-- ---- the layout

-- the layout of a block's coded bits under a card, in as many copies as it says, and under the card in some bytes
abbrev pub block_layout : Card → Layout
block_layout c = layout_of c.band c.modulation c.copies (coded_bits c.kind c.rate)

abbrev pub layout_of_card : List ℕ → Layout
layout_of_card card = block_layout (card_of card)

-- ---- sending

-- item n of a block on a layout: a copy of the coded bit that it carries, if any, where the block is scrambled before it is coded
unfoldable pub sent_item : Layout → ℕ → ℕ → ℕ → List ℕ → ℕ → ℕ
sent_item L kind rate taps block n = sent_on L (coded_bit kind rate taps (scrambled (bit_of block))) n

-- the rows behind the card's
abbrev pub send_rows : Card → List ℕ → List ℕ → List Row
send_rows c block out =
    row (not (eqb (length block) (block_bytes c.kind))) (Length (length block))
    ∷ row (ltb (length out) (items (block_layout c))) (Room (items (block_layout c)))
    ∷ []

-- the items of a block under a card, at the start of the lent memory
abbrev pub items_made : Card → List ℕ → List ℕ → List ℕ
items_made c block out = written (items (block_layout c)) (sent_item (block_layout c) c.kind c.rate c.taps block) out

-- what sending comes to behind the card's rows
unfoldable pub send_by : Card → List ℕ → List ℕ → Outcome ℕ (List ℕ)
send_by c block out = outcome (send_rows c block out) out (items (block_layout c)) (items_made c block out)

-- sending a block
unfoldable pub send : List ℕ → List ℕ → List ℕ → Outcome ℕ (List ℕ)
send card block out =
    outcome (gate_rows 1 4 card ++ send_rows (card_of card) block out) out (items (layout_of_card card)) (items_made (card_of card) block out)

-- ---- reading

-- each coded bit by strict majority of its copies: 2 where there is none
unfoldable pub decided_bit : Layout → List ℕ → ℕ → ℕ
decided_bit L received = decided (items L) (carries L) received

-- the block of the decided coded bits e: their data bits, descrambled by the same act, at the start of the lent memory
unfoldable pub block_made : ℕ → ℕ → (ℕ → ℕ) → List ℕ → List ℕ
block_made kind rate e out = bytes_of (block_bytes kind) (scrambled (data_bit kind rate e)) ++ drop (block_bytes kind) out

-- the rows behind the card's and before the decisions
abbrev pub item_rows : Card → List ℕ → List ℕ → List Row
item_rows c received out =
    row (not (eqb (length received) (items (block_layout c)))) (Length (length received))
    ∷ row (ltb (length out) (block_bytes c.kind)) (Room (block_bytes c.kind))
    ∷ row (ltb (first_above 2 received) (length received)) (Item (first_above 2 received))
    ∷ []

-- all rows behind the card's
abbrev pub read_rows : Card → List ℕ → List ℕ → List Row
read_rows c received out = item_rows c received out ++ recover_rows c.kind c.rate c.taps (decided_bit (block_layout c) received)

-- what reading comes to behind the decisions, and behind the card's rows
unfoldable pub decided_block : ℕ → ℕ → ℕ → (ℕ → ℕ) → List ℕ → Outcome ℕ (List ℕ)
decided_block kind rate taps e out = outcome (recover_rows kind rate taps e) out (block_bytes kind) (block_made kind rate e out)

unfoldable pub read_by : Card → List ℕ → List ℕ → Outcome ℕ (List ℕ)
read_by c received out =
    outcome (read_rows c received out) out (block_bytes c.kind) (block_made c.kind c.rate (decided_bit (block_layout c) received) out)

-- reading the items of a block
unfoldable pub read : List ℕ → List ℕ → List ℕ → Outcome ℕ (List ℕ)
read card received out =
    outcome (gate_rows 1 4 card ++ read_rows (card_of card) received out) out (block_bytes (card_of card).kind)
    (block_made (card_of card).kind (card_of card).rate (decided_bit (layout_of_card card) received) out)
