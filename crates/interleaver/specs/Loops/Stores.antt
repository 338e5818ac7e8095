-- Bits carried from one buffer to another, nibble by nibble. Assumes nothing.
use Rattle.std.specs.Prelude.{Bool, cond, not, List, ℕ, ◌+◌, ◌-◌, ◌*◌, eqb, get_or}
use Rattle.bits.specs.Loops.Words.{stored}
use Rattle.interleaver_shape.specs.declared.Shape.{Shape}
use Rattle.interleaver.specs.Loops.RowOrder.{place_of}

-- what a const parameter that is a `bool` says, by the number that a proof has for it
abbrev pub flag : ℕ → Bool
flag n = not (eqb n 0)

-- where the i-th bit of an order s is stored, and where it is read: on the way out bit i is read at s i, on the way back bit s i at i
abbrev pub target : Bool → (ℕ → ℕ) → ℕ → ℕ
target back s i = cond back (s i) i

abbrev pub origin : Bool → (ℕ → ℕ) → ℕ → ℕ
origin back s i = cond back i (s i)

-- the buffer after nibbles n to m - 1 of the joined stream are carried from rows to coded bits, or back
unfoldable pub carried : Shape → Bool → List ℕ → ℕ → ℕ → List ℕ → List ℕ
carried L back from n m to =
    stored ((m - n) * 4) (λ i. target back (place_of L) (n * 4 + i)) (λ i. get_or from (origin back (place_of L) (n * 4 + i)) 0) to
