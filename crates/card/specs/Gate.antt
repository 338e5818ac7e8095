-- The gate: what an entry that serves some kinds asks of its card before anything else. Assumes nothing.
use Rattle.std.specs.Prelude.{Bool, true, not, ◌&&◌, List, [], ◌∷◌, ◌++◌, ◌≡◌, ℕ, ◌≤◌, ◌<◌, ◌^◌, leb}
use Rattle.refusal.specs.declared.Refusal.TheVariants.{Mode}
use Rattle.refusal.specs.Report.{Report}
use Rattle.refusal.specs.Outcome.{Row, row, reported}
use Rattle.card.specs.declared.Card.{Card}
use Rattle.card.specs.Modes.{defined, Defined}
use Rattle.card.specs.Card.{copy_code, card_of}
use Rattle.card.specs.Entries.{card_rows}

-- whether a card's kind is one from `first` to `last`: 0 to 0 at a frame-control entry, 1 to 4 at a payload entry
abbrev pub within : ℕ → ℕ → Card → Bool
within first last c = leb first c.kind && leb c.kind last

-- the rows about a card: those of reading it, and 3 for a kind that the entry does not serve
abbrev pub gate_rows : ℕ → ℕ → List ℕ → List Row
gate_rows first last card = card_rows card ++ (row (not (within first last (card_of card))) Mode ∷ [])

-- what these rows report: the card, or why it is refused
unfoldable pub gate : ℕ → ℕ → List ℕ → Report Card
gate first last card = reported (gate_rows first last card) (card_of card)

-- a card that an entry serves
pub record Served (first last : ℕ) (c : Card) : Type 0 where
  pub mode : defined c ≡ true
  pub kinds : Defined c.kind c.rate
  pub from_first : first ≤ c.kind
  pub to_last : c.kind ≤ last
  pub band-lt : c.band < 4
  pub modulation-lt : c.modulation < 3
  pub taps-lt : c.taps < 2 ^ 11
  pub blocks : c.blocks ≡ 1
  pub copies : copy_code c.copies < 6
