-- The bands (paper 01, Carriers; 000, 5.1.4.4; for bands 2 and 3 004, 5.1.4.4 and 5.1.7.4), by number. Assumes nothing.
use Rattle.std.specs.Prelude.{List, [], ◌∷◌, ℕ, ◌+◌, ◌-◌, get_or, take}

-- bands 0 to 3 are defined
abbrev pub band_count : ℕ
band_count = 4

-- a band's first and last sub-carrier, and its frame-control symbols
abbrev pub first_sub_carrier : ℕ → ℕ
first_sub_carrier band = get_or (80 ∷ 100 ∷ 32 ∷ 72 ∷ []) band 0

abbrev pub last_sub_carrier : ℕ → ℕ
last_sub_carrier band = get_or (490 ∷ 230 ∷ 120 ∷ 120 ∷ []) band 0

abbrev pub symbols : ℕ → ℕ
symbols band = get_or (4 ∷ 12 ∷ 12 ∷ 12 ∷ []) band 0

-- the offset of each symbol; a band with fewer symbols has the first of them
abbrev pub symbol_offsets : List ℕ
symbol_offsets = 0 ∷ 192 ∷ 160 ∷ 96 ∷ 144 ∷ 80 ∷ 48 ∷ 240 ∷ 24 ∷ 184 ∷ 136 ∷ 40 ∷ []

unfoldable pub offsets : ℕ → List ℕ
offsets band = take (symbols band) symbol_offsets

-- the carriers of a symbol
unfoldable pub carriers : ℕ → ℕ
carriers band = last_sub_carrier band - first_sub_carrier band + 1
