-- The three demands, over the same outcome definitions that the entries' contracts cite. proofs/Proved.antt proves each. Assumes nothing.
use Rattle.std.specs.Prelude.{true, false, cond, ◌&&◌, List, [], ◌∷◌, ◌++◌, ◌≡◌, ℕ, ◌+◌, ◌-◌, ◌*◌, ◌^◌, ◌≤◌, ◌<◌, T, ltb, Float, length, get_or, take, drop}
use Rattle.bits.specs.Bits.{bit_of}
use Rattle.bits.specs.Lists.{tabulate}
use Rattle.refusal.specs.declared.Refusal.TheVariants.{Counts}
use Rattle.refusal.specs.Report.{done, refusal, number}
use Rattle.refusal.specs.Outcome.{Outcome}
use Rattle.card.specs.declared.Card.{Card}
use Rattle.card.specs.Card.{copy_code, card_of}
use Rattle.card.specs.Modes.{block_bytes, defined_mode, single}
use Rattle.card.specs.Entries.{read_card, read_fields}
use Rattle.written_card.specs.Entries.{write_card, in_version, move_card}
use Rattle.printed_card.specs.Text.{text_card}
use Rattle.constellation.specs.Entries.{map_outcome}
use Rattle.slicing.specs.declared.Received.{Received}
use Rattle.slicing.specs.Carriers.{through_points}
use Rattle.slicing.specs.Entries.{slice_outcome}
use Rattle.scrambler.specs.Scrambler.{scrambled}
use Rattle.interleaver_shape.specs.Shapes.{coded_bits}
use Rattle.fec.specs.Coding.{coded_bit}
use Rattle.votes.specs.Votes.{copies, wrong_copies, lost_copies}
use Rattle.votes.specs.Damage.{Damage, altered, lost}
use Rattle.bands.specs.Bands.{band_count, carriers, offsets}
use Rattle.diversity.specs.Lanes.{lane_bit, carrier_count, item_count}
use Rattle.diversity.specs.Copies.{copies_on, fewest_copies, band_fewest, band_most}
use Rattle.payload_layout.specs.Layouts.{layout_of, items as items_of, most_items}
use Rattle.payload_layout.specs.Items.{used, carried, carries}
use Rattle.payload.specs.Entries.{layout_of_card, send as payload_send, read as payload_read}
use Rattle.payload.specs.Words.{GoodCard as GoodPayloadCard, Block, made as payload_made}
use Rattle.frame_control.specs.Entries.{carriers_of, offsets_of, item_count_of, taps_of, send, read}
use Rattle.frame_control.specs.Words.{GoodCard, Word, made}

-- ---- Demand 1: hand it anything

-- a refused call leaves what it was lent as it was
abbrev pub Kept : {A : Type 0} → A → Outcome ℕ A → Type 0
Kept lent o = (number o.report ≡ 0 → ⊥) → o.out ≡ lent

-- so does every entry that is lent memory, whatever it is handed
pub record Keeps : Type 0 where
  pub card-read : (bytes fields : List ℕ) → Kept fields (read_fields bytes fields)
  pub card-write : (c : Card) (out : List ℕ) → Kept out (write_card c out)
  pub card-move : (bytes : List ℕ) (version : ℕ) (out : List ℕ) → Kept out (move_card bytes version out)
  pub card-text : (bytes out : List ℕ) → Kept out (text_card bytes out)
  pub map : (modulation : ℕ) (bits : List ℕ) (point : List Float) → Kept point (map_outcome modulation bits point)
  pub slice : (modulation : ℕ) (received : Received) (out : List ℕ) → Kept out (slice_outcome modulation received out)
  pub frame-send : (card word out : List ℕ) → Kept out (send card word out)
  pub frame-read : (card items out : List ℕ) → Kept out (read card items out)
  pub payload-send : (card block out : List ℕ) → Kept out (payload_send card block out)
  pub payload-read : (card items out : List ℕ) → Kept out (payload_read card items out)

-- ---- Demand 2: each bit going out, all of them coming back

-- A word under a good card goes out, and each item is the coded bit that its lane carries.
abbrev pub Outgoing : Type 0
Outgoing =
    (card word : List ℕ) → GoodCard card → Word word → (out : List ℕ) → item_count_of card ≤ length out
    → ((send card word out).report ≡ done (item_count_of card))
    × ((n : ℕ) → n < item_count_of card → get_or (made card word out) n 0 ≡ coded_bit 0 0 (taps_of card) (bit_of word) (lane_bit (carriers_of card) (offsets_of card) n))

-- So does a payload block, scrambled before it is coded, and each item is the coded bit that it carries by the layout, if any.
abbrev pub PayloadOutgoing : Type 0
PayloadOutgoing =
    (card block : List ℕ) → GoodPayloadCard card → Block (card_of card).kind block → (out : List ℕ) → items_of (layout_of_card card) ≤ length out
    → ((payload_send card block out).report ≡ done (items_of (layout_of_card card)))
    × ((n b : ℕ) → n < items_of (layout_of_card card) → T (carries (layout_of_card card) n b)
    → get_or (payload_made card block out) n 0 ≡ coded_bit (card_of card).kind (card_of card).rate (card_of card).taps (scrambled (bit_of block)) b)

-- From clean carriers every word comes back whole, also through the constellation's points (frame control is QPSK).
abbrev pub CleanReturn : Type 0
CleanReturn =
    (card word : List ℕ) → GoodCard card → Word word → (out back : List ℕ) → item_count_of card ≤ length out → 16 ≤ length back
    → (read card (made card word out) back ≡ record { report = done 16; out = word ++ drop 16 back })
    × (tabulate (item_count_of card) (through_points 1 (λ n. get_or (made card word out) n 0)) ≡ made card word out)

-- So does every rightly sized payload block, through the points of the card's modulation.
abbrev pub PayloadCleanReturn : Type 0
PayloadCleanReturn =
    (card block : List ℕ) → GoodPayloadCard card → Block (card_of card).kind block → (out back : List ℕ) → items_of (layout_of_card card) ≤ length out
    → block_bytes (card_of card).kind ≤ length back
    → (payload_read card (payload_made card block out) back ≡ record { report = done (block_bytes (card_of card).kind); out = block ++ drop (block_bytes (card_of card).kind) back })
    × (tabulate (items_of (layout_of_card card)) (through_points (card_of card).modulation (λ n. get_or (payload_made card block out) n 0)) ≡ payload_made card block out)

-- A card that is read, of either version, is written as the same bytes, and fields that are written are read again, with all 64 bits of the
-- serial.
abbrev pub CardWritten : Type 0
CardWritten =
    (bytes : List ℕ) → ((i : ℕ) → get_or bytes i 0 < 256) → (c : Card) → read_card bytes ≡ done c → (out : List ℕ) → length bytes ≤ length out
    → write_card c out ≡ record { report = done (length bytes); out = bytes ++ drop (length bytes) out }

abbrev pub CardReadAgain : Type 0
CardReadAgain = (c : Card) → c.serial < 2 ^ 64 → (out : List ℕ) (n : ℕ) → (write_card c out).report ≡ done n → read_card (take n (write_card c out).out) ≡ done c

-- What moving does to a card that is read: one of version 1 moves to version 2 with its other fields, one block and one copy; one of version
-- 2 moves back exactly where it says one and one, and is 11 otherwise; there and back gives the same bytes, whichever version it has and is
-- moved to; and one of the version asked for comes back byte for byte.
pub record CardMoves (bytes : List ℕ) (c : Card) : Type 0 where
  pub moves-up : c.version ≡ 1 → (out : List ℕ) → 12 ≤ length out
      → ((move_card bytes 2 out).report ≡ done 12) × (read_card (take 12 (move_card bytes 2 out).out) ≡ done (in_version 2 c)) × (c.blocks ≡ 1) × (c.copies ≡ 1)
  pub moves-back : c.version ≡ 2 → single c ≡ true → (out : List ℕ) → 11 ≤ length out
      → ((move_card bytes 1 out).report ≡ done 11) × (read_card (take 11 (move_card bytes 1 out).out) ≡ done (in_version 1 c))
  pub back-only-single : (out : List ℕ) (n : ℕ) → (move_card bytes 1 out).report ≡ done n → single c ≡ true
  pub stays : single c ≡ false → (out : List ℕ) → 11 ≤ length out → move_card bytes 1 out ≡ record { report = refusal Counts; out = out }
  pub there_and_back : (version : ℕ) (out : List ℕ) (n : ℕ) → (move_card bytes version out).report ≡ done n → (back : List ℕ) → length bytes ≤ length back
      → move_card (take n (move_card bytes version out).out) c.version back ≡ record { report = done (length bytes); out = bytes ++ drop (length bytes) back }
  pub same_version : (out : List ℕ) → length bytes ≤ length out
      → move_card bytes c.version out ≡ record { report = done (length bytes); out = bytes ++ drop (length bytes) out }

abbrev pub CardMoved : Type 0
CardMoved = (bytes : List ℕ) → ((i : ℕ) → get_or bytes i 0 < 256) → (c : Card) → read_card bytes ≡ done c → CardMoves bytes c

-- ---- Demand 3: how much damage a frame control survives

-- Each of a band's 256 coded bits has so many lanes, its copies: 12 to 13 on bands 0 and 1, 7 to 10 on band 2, 3 to 7 on band 3. Some bit
-- has the fewest, and some the most.
pub record LanesOn (band : ℕ) : Type 0 where
  pub between : (b : ℕ) → b < 256 → (band_fewest band ≤ copies_on band b) × (copies_on band b ≤ band_most band)
  pub fewest-met : (b : ℕ) × (b < 256) × (copies_on band b ≡ band_fewest band)
  pub most-met : (b : ℕ) × (b < 256) × (copies_on band b ≡ band_most band)

-- So it is on every band.
abbrev pub Lanes : Type 0
Lanes = (band : ℕ) → band < band_count → LanesOn band

-- The fewest lanes of a bit are 12, 12, 7 and 3 on bands 0 to 3.
abbrev pub Fewest : Type 0
Fewest = (band : ℕ) → band < band_count → fewest_copies (carriers band) (offsets band) ≡ band_fewest band

-- twice the altered plus the lost carriers of a reception, held against what was made
abbrev pub damage_weight : List ℕ → List ℕ → List ℕ → ℕ
damage_weight card sent items = 2 * altered (carrier_count (carriers_of card) (offsets_of card)) sent items + lost (carrier_count (carriers_of card) (offsets_of card)) sent items

-- Below the fewest lanes of a bit, which are 12, 12, 7 and 3 on bands 0 to 3, the word comes back exact.
abbrev pub Survives : Type 0
Survives =
    (card word : List ℕ) → GoodCard card → Word word → (out items back : List ℕ) → item_count_of card ≤ length out → 16 ≤ length back
    → Damage (item_count_of card) items → damage_weight card (made card word out) items < fewest_copies (carriers_of card) (offsets_of card)
    → read card items back ≡ record { report = done 16; out = word ++ drop 16 back }

-- For every good card and word some damage of exactly that number, 12, 12, 7 or 3, is refused with 7.
abbrev pub BestPossible : Type 0
BestPossible =
    (card word : List ℕ) → GoodCard card → Word word → (out back : List ℕ) → item_count_of card ≤ length out → 16 ≤ length back
    → (items : List ℕ) × Damage (item_count_of card) items
    × (damage_weight card (made card word out) items ≡ fewest_copies (carriers_of card) (offsets_of card)) × (number (read card items back).report ≡ 7)

-- ---- Beyond the demands

-- A payload block comes back exact whenever for each coded bit twice its wrong copies plus its lost copies is below a bound.
abbrev pub SurvivesBelow : (List ℕ → ℕ → ℕ) → Type 0
SurvivesBelow bound =
    (card block : List ℕ) → GoodPayloadCard card → Block (card_of card).kind block → (out received back : List ℕ) → items_of (layout_of_card card) ≤ length out
    → Damage (items_of (layout_of_card card)) received → block_bytes (card_of card).kind ≤ length back
    → ((b : ℕ) → b < coded_bits (card_of card).kind (card_of card).rate
    → 2 * wrong_copies (items_of (layout_of_card card)) (carries (layout_of_card card)) (payload_made card block out) received b
    + lost_copies (items_of (layout_of_card card)) (carries (layout_of_card card)) received b
    < bound card b)
    → payload_read card received back ≡ record { report = done (block_bytes (card_of card).kind); out = block ++ drop (block_bytes (card_of card).kind) back }

-- So it does below the copies of the bit.
abbrev pub PayloadSurvives : Type 0
PayloadSurvives = SurvivesBelow (λ card b. copies (items_of (layout_of_card card)) (carries (layout_of_card card)) b)

-- So it does below the copy count that the card says.
abbrev pub PayloadSurvivesCopies : Type 0
PayloadSurvivesCopies = SurvivesBelow (λ card b. (card_of card).copies)

-- Each coded bit of a payload has as many copies as its card says, and one more where a pad repeats it, so at most twelve.
abbrev pub PayloadCopies : Type 0
PayloadCopies =
    (card : List ℕ) → GoodPayloadCard card → (b : ℕ) → b < coded_bits (card_of card).kind (card_of card).rate
    → (copies (items_of (layout_of_card card)) (carries (layout_of_card card)) b ≡ (card_of card).copies + cond (ltb b ((card_of card).copies * (layout_of_card card).pad)) 1 0)
    × ((card_of card).copies ≤ copies (items_of (layout_of_card card)) (carries (layout_of_card card)) b)
    × (copies (items_of (layout_of_card card)) (carries (layout_of_card card)) b ≤ 12)

-- Sent once, item n carries coded bit n, and from the pad on bit n less the number of coded bits; every item is used.
abbrev pub SentOnce : Type 0
SentOnce =
    (card : List ℕ) → GoodPayloadCard card → (card_of card).copies ≡ 1 → (n : ℕ) → n < items_of (layout_of_card card)
    → let coded = coded_bits (card_of card).kind (card_of card).rate in
    (used (layout_of_card card) n ≡ true) × (carried (layout_of_card card) n ≡ cond (ltb n coded) n (n - coded))

-- An item on an unused carrier carries no bit and goes out as 0.
abbrev pub UnusedSilent : Type 0
UnusedSilent =
    (card block : List ℕ) → GoodPayloadCard card → Block (card_of card).kind block → (out : List ℕ) → items_of (layout_of_card card) ≤ length out
    → (n : ℕ) → n < items_of (layout_of_card card) → used (layout_of_card card) n ≡ false
    → ((b : ℕ) → carries (layout_of_card card) n b ≡ false) × (get_or (payload_made card block out) n 0 ≡ 0)

-- It has no vote: receptions of the right length and legal that agree on every item which carries a bit come to the same.
abbrev pub UnusedUnheard : Type 0
UnusedUnheard =
    (card : List ℕ) → GoodPayloadCard card → (left right back : List ℕ) → Damage (items_of (layout_of_card card)) left → Damage (items_of (layout_of_card card)) right
    → ((n b : ℕ) → n < items_of (layout_of_card card) → T (carries (layout_of_card card) n b) → get_or left n 0 ≡ get_or right n 0)
    → payload_read card left back ≡ payload_read card right back

-- A card can name every band and no other number: on each the same modes are defined.
abbrev pub BandsOfCards : Type 0
BandsOfCards = (band kind rate modulation : ℕ) → defined_mode band kind rate modulation ≡ (ltb band band_count && defined_mode 0 kind rate modulation)

-- For every band, kind, rate and modulation that `defined_mode` takes, other than kind 0, and every copy count, the pads of all copies are
-- together at most the coded bits. Paper 01 had a check for this at one copy, refusal 9, which is withdrawn.
abbrev pub PadWithin : Type 0
PadWithin =
    (band kind rate modulation copies : ℕ) → defined_mode band kind rate modulation ≡ true → (kind ≡ 0 → ⊥) → copy_code copies < 6
    → copies * (layout_of band modulation copies (coded_bits kind rate)).pad ≤ coded_bits kind rate

-- So it is under every card that is good at the payload entries, and every used item carries a coded bit.
abbrev pub CardPadWithin : Type 0
CardPadWithin =
    (card : List ℕ) → GoodPayloadCard card
    → ((card_of card).copies * (layout_of_card card).pad ≤ coded_bits (card_of card).kind (card_of card).rate)
    × ((n : ℕ) → n < items_of (layout_of_card card) → used (layout_of_card card) n ≡ true
    → carried (layout_of_card card) n < coded_bits (card_of card).kind (card_of card).rate)

-- The lengths that a caller makes room for: the items of a frame control by band, and the most items and bytes of a payload.
abbrev pub Lengths : Type 0
Lengths =
    ((band : ℕ) → band < band_count → item_count (carriers band) (offsets band) ≡ get_or (3288 ∷ 3144 ∷ 2136 ∷ 1176 ∷ []) band 0)
    × ((card : List ℕ) → GoodPayloadCard card → (items_of (layout_of_card card) ≤ most_items) × (block_bytes (card_of card).kind ≤ 520))
