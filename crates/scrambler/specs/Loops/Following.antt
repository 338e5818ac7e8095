-- The scrambler's bytes from those before them. Assumes nothing.
use Rattle.std.specs.Prelude.{◌≡◌, List, ℕ, ◌-◌, ◌<◌, ◌≤◌, length, get_or}
use Rattle.std.specs.Int.Bits.{bit_xor}
use Rattle.scrambler.specs.Scrambler.{scrambler_byte}

-- what following asks: the first `far` bytes are there, and each byte is the exclusive-or of those `far` and `near` before it
pub record Following (far near : ℕ) (out : List ℕ) : Type 0 where
  pub some : 0 < near
  pub near_le : near ≤ far
  pub first : (k : ℕ) → k < far → k < length out → get_or out k 0 ≡ scrambler_byte k
  pub follows : (i : ℕ) → far ≤ i → bit_xor (scrambler_byte (i - far)) (scrambler_byte (i - near)) ≡ scrambler_byte i
