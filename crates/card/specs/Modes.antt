-- The modes of a card: which are defined, and what goes by kind and modulation. Assumes nothing.
use Rattle.std.specs.Prelude.{Bool, not, ◌&&◌, ◌||◌, [], ◌∷◌, ◌≡◌, ℕ, ◌<◌, eqb, leb, ltb, get_or}
use Rattle.card.specs.declared.Card.{Card}
use Rattle.card.specs.Card.{copy_code}

-- the bytes of a block by its kind, 0 to 4; kind 0 is frame control
abbrev pub block_bytes : ℕ → ℕ
block_bytes kind = get_or (16 ∷ 72 ∷ 136 ∷ 264 ∷ 520 ∷ []) kind 0

-- the bits on a carrier by the modulation: 0 BPSK, 1 QPSK, 2 16QAM
abbrev pub carrier_bits : ℕ → ℕ
carrier_bits modulation = get_or (1 ∷ 2 ∷ 4 ∷ []) modulation 0

-- the defined modes: band 0 to 3; kind 0 to 4; modulation 0 to 2; rate 0, or 1 with kind 4; kind 0 only with QPSK
unfoldable pub defined_mode : ℕ → ℕ → ℕ → ℕ → Bool
defined_mode band kind rate modulation =
    leb band 3 && leb kind 4 && leb modulation 2 && (eqb rate 0 || eqb rate 1 && eqb kind 4) && (not (eqb kind 0) || eqb modulation 1)

-- one block and one copy
abbrev pub single : Card → Bool
single c = eqb c.blocks 1 && eqb c.copies 1

-- the defined counts by kind: one block and one copy or, of kinds 1 to 4, copies that have a code and, until T-07 defines more, one block
abbrev pub defined_counts : ℕ → ℕ → ℕ → Bool
defined_counts kind blocks copies = eqb blocks 1 && eqb copies 1 || not (eqb kind 0) && (ltb (copy_code copies) 6 && eqb blocks 1)

-- a card's mode and its counts are defined
abbrev pub defined : Card → Bool
defined c = defined_mode c.band c.kind c.rate c.modulation && defined_counts c.kind c.blocks c.copies

-- the kinds and rates that are defined: kinds 0 to 4 at rate 0 (1/2), and kind 4 alone at rate 1 (16/18)
pub record Defined (kind rate : ℕ) : Type 0 where
  pub kind-lt : kind < 5
  pub rate-lt : rate < 2
  pub high-rate : rate ≡ 1 → kind ≡ 4
