-- The words in which the theorems about a payload's entries speak. Assumes nothing.
use Rattle.std.specs.Prelude.{List, ◌≡◌, ℕ, ◌<◌, length, get_or, take}
use Rattle.refusal.specs.Report.{done}
use Rattle.card.specs.Card.{card_of}
use Rattle.card.specs.Modes.{block_bytes}
use Rattle.card.specs.Gate.{gate}
use Rattle.payload_layout.specs.Layouts.{items}
use Rattle.payload.specs.Entries.{layout_of_card, send}

-- a good card: no cause about cards refuses it at the payload entries
abbrev pub GoodCard : List ℕ → Type 0
GoodCard card = gate 1 4 card ≡ done (card_of card)

-- a rightly sized block of a kind: as many bytes as the kind has
pub record Block (kind : ℕ) (block : List ℕ) : Type 0 where
  pub long : length block ≡ block_bytes kind
  pub bytes : (i : ℕ) → get_or block i 0 < 256

-- what the outgoing side made: the items that it writes on success, no byte beyond
abbrev pub made : List ℕ → List ℕ → List ℕ → List ℕ
made card block out = take (items (layout_of_card card)) (send card block out).out
