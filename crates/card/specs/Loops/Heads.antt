-- What stands before a card's serial. Assumes nothing.
use Rattle.std.specs.Prelude.{cond, List, ℕ, ◌*◌, eqb, length}
use Rattle.bits.specs.Bits.{field}

-- as the four bytes of version 2: any other number of bytes has three, and the fourth counts as 0
unfoldable pub head_of : List ℕ → ℕ
head_of bytes = cond (eqb (length bytes) 12) (field bytes 0 32) (field bytes 0 24 * 256)
