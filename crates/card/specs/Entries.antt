-- What reading a card answers, for all inputs, by the rows of the table. Assumes nothing.
use Rattle.std.specs.Prelude.{Bool, not, ◌&&◌, ◌||◌, List, [], ◌∷◌, ◌++◌, ℕ, eqb, ltb, length, drop}
use Rattle.refusal.specs.declared.Refusal.TheVariants.{CardLength, Version, VersionLength, Mode, Room}
use Rattle.refusal.specs.Report.{Report}
use Rattle.refusal.specs.Outcome.{Row, row, Outcome, reported, outcome}
use Rattle.card.specs.declared.Card.{Card}
use Rattle.card.specs.Modes.{defined}
use Rattle.card.specs.Card.{card_bytes, card_of, padding_of, fields_of}

-- versions 1 and 2
abbrev pub is_version : ℕ → Bool
is_version version = eqb version 1 || eqb version 2

-- a version, and spare 0
abbrev pub versioned : Card → Bool
versioned c = is_version c.version && eqb c.spare 0

-- padding that is not zero, on twelve bytes of version 2
abbrev pub padded : List ℕ → Bool
padded bytes = eqb (length bytes) 12 && eqb (card_of bytes).version 2 && not (eqb (padding_of bytes) 0)

-- the rows about a card in some bytes, which every entry that takes a card has first
abbrev pub card_rows : List ℕ → List Row
card_rows bytes =
    row (not (eqb (length bytes) 11 || eqb (length bytes) 12)) (CardLength (length bytes))
    ∷ row (not (versioned (card_of bytes)) || padded bytes) Version
    ∷ row (not (eqb (length bytes) (card_bytes (card_of bytes).version))) VersionLength
    ∷ row (not (defined (card_of bytes))) Mode
    ∷ []

-- reading a card
unfoldable pub read_card : List ℕ → Report Card
read_card bytes = reported (card_rows bytes) (card_of bytes)

-- reading a card into a list of its fields
abbrev pub field_rows : List ℕ → List ℕ → List Row
field_rows bytes fields = card_rows bytes ++ (row (ltb (length fields) 10) (Room 10) ∷ [])

unfoldable pub read_fields : List ℕ → List ℕ → Outcome ℕ (List ℕ)
read_fields bytes fields = outcome (field_rows bytes fields) fields 10 (fields_of (card_of bytes) ++ drop 10 fields)
