-- The pair interleaver: the pairs that encoder 2 reads. Assumes nothing.
use Rattle.std.specs.Prelude.{◌≡◌, cond, List, [], ◌∷◌, ℕ, ◌+◌, ◌-◌, ◌*◌, ◌/◌, ◌%◌, ◌<◌, eqb, length, get_or}
use Rattle.bits.specs.Bits.{bit_at}
use Rattle.constituent.specs.Pairs.{pair_count}

-- the tables S for 16, 72, 136, 264 and 520 bytes (000, Tables 4 to 8)
abbrev pub starts16 : List ℕ
starts16 = 53 ∷ 20 ∷ 9 ∷ 32 ∷ 62 ∷ 39 ∷ 51 ∷ 18 ∷ []

abbrev pub starts72 : List ℕ
starts72 = 1 ∷ 200 ∷ 255 ∷ 166 ∷ 221 ∷ 132 ∷ 187 ∷ 98 ∷ 153 ∷ 64 ∷ 119 ∷ 30 ∷ 85 ∷ 284 ∷ 51 ∷ 250 ∷ 17 ∷ 216 ∷ []

abbrev pub starts136 : List ℕ
starts136 =
    383 ∷ 68 ∷ 262 ∷ 180 ∷ 484 ∷ 363 ∷ 302 ∷ 152 ∷ 405 ∷ 529 ∷ 97 ∷ 11 ∷ 333 ∷ 509 ∷ 40 ∷ 198 ∷ 236 ∷ 454 ∷ 428 ∷ 124 ∷ 273 ∷ 493 ∷ 73
    ∷ 389 ∷ 162 ∷ 293 ∷ 2 ∷ 211 ∷ 467 ∷ 252 ∷ 411 ∷ 183 ∷ 310 ∷ 86 ∷ []

abbrev pub starts264 : List ℕ
starts264 =
    309 ∷ 175 ∷ 737 ∷ 667 ∷ 1024 ∷ 224 ∷ 622 ∷ 962 ∷ 527 ∷ 845 ∷ 926 ∷ 1052 ∷ 366 ∷ 54 ∷ 249 ∷ 784 ∷ 108 ∷ 551 ∷ 410 ∷ 479 ∷ 823 ∷ 866
    ∷ 442 ∷ 654 ∷ 321 ∷ 33 ∷ 85 ∷ 610 ∷ 730 ∷ 765 ∷ 1038 ∷ 352 ∷ 954 ∷ []

abbrev pub starts520 : List ℕ
starts520 =
    1183 ∷ 32 ∷ 425 ∷ 1434 ∷ 165 ∷ 331 ∷ 1574 ∷ 1039 ∷ 1084 ∷ 1332 ∷ 1513 ∷ 536 ∷ 213 ∷ 1908 ∷ 761 ∷ 1231 ∷ 1659 ∷ 476 ∷ 1842 ∷ 809
    ∷ 2007 ∷ 895 ∷ 1717 ∷ 1950 ∷ 101 ∷ 937 ∷ 618 ∷ 1606 ∷ 704 ∷ 1786 ∷ 570 ∷ 843 ∷ 349 ∷ 2038 ∷ 1102 ∷ 1260 ∷ 235 ∷ 40 ∷ 648 ∷ 1347 ∷ []

abbrev pub starts : ℕ → List ℕ
starts kind = get_or (starts16 ∷ starts72 ∷ starts136 ∷ starts264 ∷ starts520 ∷ []) kind []

-- I(x) = (S(x mod N) − (x div N)·N + L) mod L, for x below L, where N is the length of S. L is added before the difference is taken.
unfoldable pub source_pair_by : ℕ → List ℕ → ℕ → ℕ
source_pair_by l s x = (get_or s (x % length s) 0 + l - x / length s * length s) % l

-- what L and S must meet: N divides L, the entries are below L, and all residues S mod N differ
pub record Interleaver (l : ℕ) (s : List ℕ) : Type 0 where
  pub some : 0 < length s
  pub whole : l / length s * length s ≡ l
  pub below : (i : ℕ) → i < length s → get_or s i 0 < l
  pub differ : (i j : ℕ) → i < length s → j < length s → get_or s i 0 % length s ≡ get_or s j 0 % length s → i ≡ j

-- a pair with its two bits exchanged
abbrev pub exchanged : ℕ → ℕ
exchanged u = bit_at 0 u * 2 + bit_at 1 u

-- a pair as it goes out at x: its two bits are exchanged when x is even
unfoldable pub exchanged_at : ℕ → ℕ → ℕ
exchanged_at x u = cond (eqb (x % 2) 0) (exchanged u) u

-- output pair x of the pairs p is input pair I(x), exchanged when x is even
unfoldable pub interleaved_by : ℕ → List ℕ → (ℕ → ℕ) → ℕ → ℕ
interleaved_by l s p x = exchanged_at x (p (source_pair_by l s x))

-- I(x) and the interleaved pairs by the kind of a block
unfoldable pub source_pair : ℕ → ℕ → ℕ
source_pair kind x = source_pair_by (pair_count kind) (starts kind) x

unfoldable pub interleaved : ℕ → (ℕ → ℕ) → ℕ → ℕ
interleaved kind p x = interleaved_by (pair_count kind) (starts kind) p x
