-- The bytes of a word, and stores into a buffer, one after the other. Assumes nothing.
use Rattle.std.specs.Prelude.{List, ℕ, zero, suc, ◌+◌, ◌*◌, ◌/◌, ◌%◌, ◌^◌, set}
use Rattle.bits.specs.Bits.{bit_at}

-- byte c of a word, from the lowest
unfoldable pub word_byte : ℕ → ℕ → ℕ
word_byte word c = word / 256 ^ c % 256

-- the buffer after v 0 is stored at w 0, v 1 at w 1 and so on, n stores in all
unfoldable pub stored : ℕ → (ℕ → ℕ) → (ℕ → ℕ) → List ℕ → List ℕ
stored zero w v out = out
stored (suc n) w v out = set (stored n w v out) (w n) (v n)

-- the four bits of a number below 16, most significant first, one a byte: the first is the lowest byte
unfoldable pub nibble : ℕ → ℕ
nibble n = bit_at 3 n + bit_at 2 n * 2 ^ 8 + bit_at 1 n * 2 ^ 16 + bit_at 0 n * 2 ^ 24
