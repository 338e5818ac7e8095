-- The words of demand 3 (paper 01) that speak of a frame control's entries. Altered, lost and damage are those of crate votes.
-- Assumes nothing.
use Rattle.std.specs.Prelude.{List, ◌≡◌, ℕ, ◌<◌, length, get_or, take}
use Rattle.refusal.specs.Report.{done}
use Rattle.card.specs.Card.{card_of}
use Rattle.card.specs.Gate.{gate}
use Rattle.frame_control.specs.Entries.{item_count_of, send}

-- a good card (paper 01's term): no cause about cards refuses it at the frame-control entries
abbrev pub GoodCard : List ℕ → Type 0
GoodCard card = gate 0 0 card ≡ done (card_of card)

-- a word: sixteen bytes
pub record Word (word : List ℕ) : Type 0 where
  pub long : length word ≡ 16
  pub bytes : (i : ℕ) → get_or word i 0 < 256

-- what the outgoing side made: the items that it writes on success, no byte beyond
abbrev pub made : List ℕ → List ℕ → List ℕ → List ℕ
made card word out = take (item_count_of card) (send card word out).out
