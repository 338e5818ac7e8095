-- What writing and moving a card answer, for all inputs, by the rows of the table. Assumes nothing.
use Rattle.std.specs.Prelude.{not, ◌&&◌, List, [], ◌∷◌, ◌++◌, ℕ, ◌^◌, eqb, ltb, length, drop}
use Rattle.refusal.specs.declared.Refusal.TheVariants.{Version, Mode, Room, Counts}
use Rattle.refusal.specs.Outcome.{Row, row, Outcome, outcome}
use Rattle.card.specs.declared.Card.{Card}
use Rattle.card.specs.Modes.{defined, single}
use Rattle.card.specs.Card.{card_bytes, card_of, bytes_of_card}
use Rattle.card.specs.Entries.{is_version, versioned, card_rows}

-- the rows about a card that is to be put into some memory: its version's length, and that version 1 says one block and one copy
abbrev pub put_rows : Card → List ℕ → List Row
put_rows c out =
    row (ltb (length out) (card_bytes c.version)) (Room (card_bytes c.version))
    ∷ row (eqb c.version 1 && not (single c)) Counts
    ∷ []

-- that memory with the card at its start
abbrev pub put_into : Card → List ℕ → List ℕ
put_into c out = bytes_of_card c ++ drop (card_bytes c.version) out

-- the rows of writing: any field too large for its bits is refused, version and spare by 2 and the others by 3
abbrev pub write_rows : Card → List ℕ → List Row
write_rows c out =
    row (not (versioned c)) Version
    ∷ row (not (defined c && ltb c.taps (2 ^ 11))) Mode
    ∷ put_rows c out

-- writing a card
unfoldable pub write_card : Card → List ℕ → Outcome ℕ (List ℕ)
write_card c out = outcome (write_rows c out) out (card_bytes c.version) (put_into c out)

-- the same card in another version
abbrev pub in_version : ℕ → Card → Card
in_version version c =
    record {
      version = version;
      band = c.band;
      kind = c.kind;
      rate = c.rate;
      modulation = c.modulation;
      taps = c.taps;
      spare = c.spare;
      serial = c.serial;
      blocks = c.blocks;
      copies = c.copies;
    }

-- the rows of moving: those of the card, and 2 for a version asked for that there is not
abbrev pub move_rows : List ℕ → ℕ → List ℕ → List Row
move_rows bytes version out = card_rows bytes ++ (row (not (is_version version)) Version ∷ put_rows (in_version version (card_of bytes)) out)

-- moving a card to a version
unfoldable pub move_card : List ℕ → ℕ → List ℕ → Outcome ℕ (List ℕ)
move_card bytes version out =
    outcome (move_rows bytes version out) out (card_bytes version) (put_into (in_version version (card_of bytes)) out)
