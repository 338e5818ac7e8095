-- The scrambler of 000, 5.1.5.2: a register of ten stages over x^10 + x^3 + 1, whose bits are exclusive-ored with the data.
-- A register is a number; stage i is its bit i - 1. Assumes nothing.
use Rattle.std.specs.Prelude.{List, ℕ, zero, suc, ◌+◌, ◌-◌, ◌*◌, ◌%◌, ◌^◌, length}
use Rattle.std.specs.Int.Bits.{bit_xor}
use Rattle.bits.specs.Bits.{bit_at, bit_of, byte_of, bytes_of}

-- the bit in stage i of the register r
abbrev pub stage : ℕ → ℕ → ℕ
stage i r = bit_at (i - 1) r

-- the bit that goes out and enters at stage 1: stages 3 and 10 as they stand before the shift (docs/DECISIONS.md, D6)
unfoldable pub feedback : ℕ → ℕ
feedback r = bit_xor (stage 3 r) (stage 10 r)

-- the register after a shift left: stages 1 to 9 move up by one, and stage 10 is dropped
unfoldable pub shifted : ℕ → ℕ
shifted r = r % 2 ^ 9 * 2 + feedback r

-- the register r after n shifts
unfoldable pub after_shifts : ℕ → ℕ → ℕ
after_shifts r zero = r
after_shifts r (suc n) = shifted (after_shifts r n)

-- bit n, from 0, that the register r gives
unfoldable pub scrambler_bit : ℕ → ℕ → ℕ
scrambler_bit r n = feedback (after_shifts r n)

-- each of the ten stages holds one
abbrev pub all_ones : ℕ
all_ones = 2 ^ 10 - 1

-- byte k, from 0, that a register of all ones gives
unfoldable pub scrambler_byte : ℕ → ℕ
scrambler_byte = byte_of (scrambler_bit all_ones)

-- bit i of the scrambled data bits d
unfoldable pub scrambled : (ℕ → ℕ) → ℕ → ℕ
scrambled d i = bit_xor (d i) (scrambler_bit all_ones i)

-- a block of bytes, scrambled: each block starts from all ones
unfoldable pub scramble : List ℕ → List ℕ
scramble bytes = bytes_of (length bytes) (scrambled (bit_of bytes))
