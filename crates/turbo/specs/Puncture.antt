-- Puncturing: the times t whose parity bits a rate keeps. Assumes nothing.
use Rattle.std.specs.Prelude.{Bool, ◌&&◌, [], ◌∷◌, ℕ, ◌*◌, ◌%◌, eqb, get_or}
use Rattle.bits.specs.Bits.{bit_at}
use Rattle.bits.specs.Lists.{lowest}
use Rattle.bits.specs.Sums.{count}
use Rattle.constituent.specs.Pairs.{pair_count}

-- the puncturing patterns of sixteen places as printed, the same for p and q (000, Tables 9 and 10)
abbrev pub pattern : ℕ → ℕ
pattern rate = get_or (0b1111111111111111 ∷ 0b1000000010000000 ∷ []) rate 0

-- t is kept: the pattern has a 1 at place t mod 16, counted from the right (004, 5.1.5.3.4: 按从右(低位)到左(高位)顺序)
unfoldable pub kept : ℕ → ℕ → Bool
kept rate t = eqb (bit_at (t % 16) (pattern rate)) 1

-- the time that is kept after j others
unfoldable pub kept_time : ℕ → ℕ → ℕ → ℕ
kept_time kind rate j = lowest (pair_count kind) (λ t. kept rate t && eqb (count t (kept rate)) j)

-- how many parity bits are kept of a block: two at each kept time
unfoldable pub kept_count : ℕ → ℕ → ℕ
kept_count kind rate = 2 * count (pair_count kind) (kept rate)
