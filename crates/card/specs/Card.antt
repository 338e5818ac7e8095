-- The job card (paper 01's term): eleven bytes (version 1) or twelve (version 2), bit-packed, most significant first. Assumes nothing.
use Rattle.std.specs.Prelude.{cond, List, [], ◌∷◌, ◌++◌, ℕ, ◌+◌, ◌-◌, ◌*◌, ◌^◌, eqb, length, get_or}
use Rattle.bits.specs.Bits.{bit_at, bytes_of, field}
use Rattle.bits.specs.Lists.{lowest}
use Rattle.card.specs.declared.Card.{Card}

-- the bytes of a card by its version
abbrev pub card_bytes : ℕ → ℕ
card_bytes version = cond (eqb version 2) 12 11

-- the bits of version, band, kind, rate, modulation, taps, spare, blocks less one, copy code, padding and serial, by a card's bytes.
-- Eleven bytes have none for blocks, copies and padding, so these are 0 there: one block and one copy.
abbrev pub widths : ℕ → List ℕ
widths bytes = 4 ∷ 2 ∷ 3 ∷ 1 ∷ 2 ∷ 11 ∷ 1 ∷ cond (eqb bytes 12) (2 ∷ 3 ∷ 3 ∷ 64 ∷ []) (0 ∷ 0 ∷ 0 ∷ 64 ∷ [])

-- the copy counts by their codes, and the code of a count; codes 6 and 7 have no count (0), and a number that is no count has no code (6)
abbrev pub copy_counts : List ℕ
copy_counts = 1 ∷ 2 ∷ 4 ∷ 5 ∷ 7 ∷ 11 ∷ []

abbrev pub copy_count : ℕ → ℕ
copy_count code = get_or copy_counts code 0

unfoldable pub copy_code : ℕ → ℕ
copy_code copies = lowest 6 (λ code. eqb copies (copy_count code))

-- the numbers in some bytes, of the given widths, one behind the other from bit `at` on
abbrev pub fields_from : List ℕ → ℕ → List ℕ → List ℕ
fields_from bytes at [] = []
fields_from bytes at (w ∷ ws) = field bytes at w ∷ fields_from bytes (at + w) ws

-- the number whose bits are those of n, and then the given numbers', one behind the other
abbrev pub packed : List ℕ → List ℕ → ℕ → ℕ
packed [] vs n = n
packed (w ∷ ws) [] n = n
packed (w ∷ ws) (v ∷ vs) n = packed ws vs (n * 2 ^ w + v)

-- the seven fields that both versions begin with
abbrev pub first_fields : Card → List ℕ
first_fields c = c.version ∷ c.band ∷ c.kind ∷ c.rate ∷ c.modulation ∷ c.taps ∷ c.spare ∷ []

-- a card from the numbers in its bytes, and those numbers of a card; padding is 0
abbrev pub card_from : List ℕ → Card
card_from vs =
    record {
      version = get_or vs 0 0;
      band = get_or vs 1 0;
      kind = get_or vs 2 0;
      rate = get_or vs 3 0;
      modulation = get_or vs 4 0;
      taps = get_or vs 5 0;
      spare = get_or vs 6 0;
      serial = get_or vs 10 0;
      blocks = get_or vs 7 0 + 1;
      copies = copy_count (get_or vs 8 0);
    }

abbrev pub numbers_of : Card → List ℕ
numbers_of c = first_fields c ++ ((c.blocks - 1) ∷ copy_code c.copies ∷ 0 ∷ c.serial ∷ [])

-- the card in some bytes, twelve of them laid out as version 2 and any other number as version 1; and their padding
unfoldable pub card_of : List ℕ → Card
card_of bytes = card_from (fields_from bytes 0 (widths (length bytes)))

unfoldable pub padding_of : List ℕ → ℕ
padding_of bytes = get_or (fields_from bytes 0 (widths (length bytes))) 9 0

-- the bytes of a card, as many as its version has
unfoldable pub bytes_of_card : Card → List ℕ
bytes_of_card c = let n = card_bytes c.version in bytes_of n (λ i. bit_at (8 * n - 1 - i) (packed (widths n) (numbers_of c) 0))

-- a card's ten fields in order
abbrev pub fields_of : Card → List ℕ
fields_of c = first_fields c ++ (c.serial ∷ c.blocks ∷ c.copies ∷ [])
