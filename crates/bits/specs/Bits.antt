-- Bits of numbers and of bytes. Bits are taken from bytes most significant first.
-- Assumes nothing.
use Rattle.std.specs.Prelude.{List, ℕ, zero, suc, ◌+◌, ◌-◌, ◌*◌, ◌/◌, ◌%◌, ◌^◌, get_or}
use Rattle.bits.specs.Lists.{tabulate}

-- bit k of a number, counted from the least significant
abbrev pub bit_at : ℕ → ℕ → ℕ
bit_at k n = n / 2 ^ k % 2

-- bit i of a list of bytes, most significant first
unfoldable pub bit_of : List ℕ → ℕ → ℕ
bit_of bytes i = bit_at (7 - i % 8) (get_or bytes (i / 8) 0)

-- the number that the bits d 0, d 1, .., of which there are n, spell, most significant first
unfoldable pub pack : ℕ → (ℕ → ℕ) → ℕ
pack zero d = 0
pack (suc n) d = pack n d * 2 + d n

-- byte k of the bits d
unfoldable pub byte_of : (ℕ → ℕ) → ℕ → ℕ
byte_of d k = pack 8 (λ j. d (8 * k + j))

-- the number in the bits of some bytes from `at` on, `width` of them
unfoldable pub field : List ℕ → ℕ → ℕ → ℕ
field bytes at width = pack width (λ j. bit_of bytes (at + j))

-- the n bytes that the bits d make
unfoldable pub bytes_of : ℕ → (ℕ → ℕ) → List ℕ
bytes_of n d = tabulate n (byte_of d)
