-- The printed card: a total definition on the bytes that were read. Assumes nothing.
use Rattle.std.specs.Prelude.{cond, List, [], ◌∷◌, ◌++◌, ℕ, eqb, ltb, length, drop}
use Rattle.refusal.specs.declared.Refusal.TheVariants.{Room}
use Rattle.refusal.specs.Report.{Report, done, refused}
use Rattle.refusal.specs.Outcome.{Row, row, Outcome, outcome}
use Rattle.text.specs.Text.{ascii, decimal, binary, line}
use Rattle.card.specs.declared.Card.{Card}
use Rattle.card.specs.Entries.{read_card}

-- a line for each field but spare; taps are eleven binary digits, the others decimal
unfoldable pub mode_lines : Card → List ℕ
mode_lines c =
    line (ascii "version") (decimal c.version)
    ++ line (ascii "band") (decimal c.band)
    ++ line (ascii "kind") (decimal c.kind)
    ++ line (ascii "rate") (decimal c.rate)
    ++ line (ascii "modulation") (decimal c.modulation)

-- the counts, which only version 2 has
unfoldable pub count_lines : Card → List ℕ
count_lines c = cond (eqb c.version 2) (line (ascii "blocks") (decimal c.blocks) ++ line (ascii "copies") (decimal c.copies)) []

unfoldable pub card_lines : Card → List ℕ
card_lines c = mode_lines c ++ line (ascii "taps") (binary 11 c.taps) ++ count_lines c ++ line (ascii "serial") (decimal c.serial)

-- the text of what reading a card reports: its lines, or its refusal's number
abbrev pub text_of : Report Card → List ℕ
text_of (done c) = card_lines c
text_of (refused n v w) = line (ascii "refused") (decimal n)

-- the text of some bytes as a card
unfoldable pub card_text : List ℕ → List ℕ
card_text bytes = text_of (read_card bytes)

-- no text is longer: copies have at most two digits, taps eleven, serial twenty, and each other field one
abbrev pub longest : ℕ
longest = 108

-- the text into a buffer: the only refusal is for want of room
abbrev pub text_rows : List ℕ → List ℕ → List Row
text_rows bytes out = row (ltb (length out) (length (card_text bytes))) (Room (length (card_text bytes))) ∷ []

unfoldable pub text_card : List ℕ → List ℕ → Outcome ℕ (List ℕ)
text_card bytes out = outcome (text_rows bytes out) out (length (card_text bytes)) (card_text bytes ++ drop (length (card_text bytes)) out)
