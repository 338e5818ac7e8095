-- Fields that fit the card, and a card put into some memory. Assumes nothing.
use Rattle.std.specs.Prelude.{true, List, [], ◌∷◌, ◌++◌, ◌≡◌, ℕ, ◌+◌, ◌-◌, ◌*◌, ◌^◌, ◌≤◌, ◌<◌}
use Rattle.bits.specs.Bits.{bit_at, byte_of}
use Rattle.refusal.specs.Outcome.{Outcome, outcome}
use Rattle.card.specs.declared.Card.{Card}
use Rattle.card.specs.Card.{card_bytes, copy_code, packed, first_fields}
use Rattle.card.specs.Entries.{is_version}
use Rattle.written_card.specs.Entries.{put_rows, put_into}

-- each field but the serial fits its bits in version 2
pub record Fitting (c : Card) : Type 0 where
  pub version : is_version c.version ≡ true
  pub version-lt : c.version < 16
  pub band : c.band < 4
  pub kind : c.kind < 8
  pub rate : c.rate < 2
  pub modulation : c.modulation < 4
  pub taps : c.taps < 2048
  pub spare : c.spare < 2
  pub blocks_from : 1 ≤ c.blocks
  pub blocks_to : c.blocks ≤ 4
  pub copies : copy_code c.copies < 6

-- what stands before the serial in version 2
abbrev pub head_of : Card → ℕ
head_of c =
    packed (4 ∷ 2 ∷ 3 ∷ 1 ∷ 2 ∷ 11 ∷ 1 ∷ 2 ∷ 3 ∷ 3 ∷ []) (first_fields c ++ ((c.blocks - 1) ∷ copy_code c.copies ∷ 0 ∷ [])) 0

-- byte i of a card whose head has so many bytes
unfoldable pub card_byte : ℕ → ℕ → ℕ → ℕ → ℕ
card_byte bytes head serial i = byte_of (λ j. bit_at (8 * (bytes + 8) - 1 - j) (head * 2 ^ 64 + serial)) i

-- a card put at the start of some memory, or refusal 5 or 11
unfoldable pub put_card : Card → List ℕ → Outcome ℕ (List ℕ)
put_card c out = outcome (put_rows c out) out (card_bytes c.version) (put_into c out)
