-- The pair interleaver a byte at a time: the block's pairs are listed twice and read off four rows at a time. Assumes nothing.
use Rattle.std.specs.Prelude.{◌≡◌, cond, List, ℕ, ◌+◌, ◌-◌, ◌*◌, ◌/◌, ◌%◌, ◌≤◌, ◌<◌, eqb, length, get_or}
use Rattle.pair_interleaver.specs.Interleave.{exchanged}

-- the two digits of each element to some base, one after the other
unfoldable pub digit_of : ℕ → List ℕ → ℕ → ℕ
digit_of base src t = cond (eqb (t % 2) 0) (get_or src (t / 2) 0 / base) (get_or src (t / 2) 0) % base

-- l elements, and the same again
unfoldable pub twice : ℕ → (ℕ → ℕ) → ℕ → ℕ
twice l p t = p (t % l)

-- where output pair x, in four rows, stands: the table's entry, and three rows more in the first row, two in the second and so on
unfoldable pub place_in : List ℕ → ℕ → ℕ
place_in s x = get_or s (x % length s) 0 + (3 - x / length s) * length s

-- what stands in a list at the places of another
unfoldable pub picked : List ℕ → List ℕ → ℕ → ℕ
picked places list t = get_or list (get_or places t 0) 0

-- output pair x of n bytes by the places of four rows, the list going down by four rows each time
unfoldable pub by_rows : List ℕ → List ℕ → ℕ → ℕ → ℕ
by_rows places list n x =
    get_or list (4 * (n - x / (4 * (length places / 4)) * (length places / 4)) - 3 * (length places / 4) + get_or places (x % (4 * (length places / 4))) 0) 0

-- a byte's pairs as they go out: its first and its third pair exchanged
unfoldable pub exchanged_byte : ℕ → ℕ
exchanged_byte b = exchanged (b / 64) * 64 + b / 16 % 4 * 16 + exchanged (b / 4 % 4) * 4 + b % 4

-- a table's entries can be moved up by so much
abbrev pub SumsFit : List ℕ → ℕ → Type 0
SumsFit s by = (k : ℕ) → k < length s → get_or s k 0 + by < 65536

-- a table's entries are places of a block
abbrev pub StartsBelow : List ℕ → Type 0
StartsBelow s = (k : ℕ) → k < length s → get_or s k 0 < 2080

-- what gathering asks: the places are in the list, four to a byte, and the list has pairs
pub record Gathering (places list out : List ℕ) : Type 0 where
  pub there : (t : ℕ) → t < length places → get_or places t 0 < length list
  pub pairs : (t : ℕ) → t < length list → get_or list t 0 < 4
  pub room : length out ≡ length places / 4

-- what the bytes of interleaved pairs ask: places of four whole rows, as many bytes as fill such rows, and a list of pairs that reaches
pub record Interleaving (places list out : List ℕ) : Type 0 where
  pub some : 0 < length places / 4
  pub rows : length out / (length places / 4) * (length places / 4) ≡ length out
  pub small : length out ≤ 520
  pub there : (t : ℕ) → t < length places → get_or places t 0 + 4 * length out < length list + 3 * (length places / 4)
  pub pairs : (t : ℕ) → t < length list → get_or list t 0 < 4
