-- The numbers of the channel interleaver by kind and rate (Table 11 and 5.1.5.4.4 of source 000).
-- Assumes nothing.
use Rattle.std.specs.Prelude.{List, [], ◌∷◌, ℕ, ◌+◌, ◌*◌, ◌/◌, eqb, get_or}
use Rattle.card.specs.Modes.{block_bytes}
use Rattle.interleaver_shape.specs.declared.Shape.{Shape}

-- Table 11, its column of offsets and its column of steps. Row kind + rate is that of kind and rate: five kinds at rate 1/2, then kind 4 at 16/18.
abbrev pub offsets : List ℕ
offsets = 16 ∷ 72 ∷ 136 ∷ 264 ∷ 520 ∷ 60 ∷ []

abbrev pub steps : List ℕ
steps = 4 ∷ 16 ∷ 16 ∷ 16 ∷ 16 ∷ 11 ∷ []

-- by rate: how many data nibbles go with one parity nibble, and how many of them come before it (1 + 1, and 3 + 1 + 5)
abbrev pub groups : List ℕ
groups = 1 ∷ 8 ∷ []

abbrev pub leads : List ℕ
leads = 1 ∷ 3 ∷ []

-- Four bits make a row, so a byte makes two. At rate 16/18 the parity rows are read on without a restart.
abbrev pub shape_of : ℕ → ℕ → Shape
shape_of kind rate =
    record {
      rows = block_bytes kind * 2;
      parity = block_bytes kind * 2 / get_or groups rate 0;
      step = get_or steps (kind + rate) 0;
      offset = get_or offsets (kind + rate) 0;
      group = get_or groups rate 0;
      lead = get_or leads rate 0;
      continuous = eqb rate 1;
    }

-- the number of coded bits of a shape
abbrev pub coded_of : Shape → ℕ
coded_of L = (L.rows + L.parity) * 4

-- the number of coded bits at a kind and rate
unfoldable pub coded_bits : ℕ → ℕ → ℕ
coded_bits kind rate = coded_of (shape_of kind rate)
