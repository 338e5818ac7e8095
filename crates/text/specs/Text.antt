-- Text in ASCII: words, digits and lines. Assumes nothing.
use Rattle.std.specs.Prelude.{cond, List, [], ◌∷◌, ◌++◌, ℕ, suc, ◌+◌, ◌-◌, ◌/◌, ◌%◌, ◌^◌, eqb, ltb, get_or}
use Prim.Native.Char.{code}
use Prim.Native.String.{String}
use Rattle.bits.specs.Bits.{bit_at}
use Rattle.bits.specs.Lists.{tabulate, lowest}

-- the codes of a text's characters
abbrev pub ascii : String → List ℕ
ascii String.[] = []
ascii (String.◌∷◌ c s) = code c ∷ ascii s

-- how many decimal digits a number below 10 ^ 20 takes, at least one
unfoldable pub places : ℕ → ℕ
places n = suc (lowest 19 (λ k. ltb n (10 ^ (k + 1))))

-- the decimal digits of a number, with no zero in front
unfoldable pub decimal : ℕ → List ℕ
decimal n = tabulate (places n) (λ i. 48 + n / 10 ^ (places n - 1 - i) % 10)

-- the last `width` binary digits of a number
unfoldable pub binary : ℕ → ℕ → List ℕ
binary width n = tabulate width (λ i. 48 + bit_at (width - 1 - i) n)

-- a hex digit, in lower case
unfoldable pub hex_digit : ℕ → ℕ
hex_digit n = cond (ltb n 10) (48 + n) (87 + n)

-- digit i of some bytes in hex, two a byte
unfoldable pub hex_at : List ℕ → ℕ → ℕ
hex_at bytes i = hex_digit (cond (eqb (i % 2) 0) (get_or bytes (i / 2) 0 / 16) (get_or bytes (i / 2) 0 % 16))

-- a name, a space, a value and a line end
abbrev pub line : List ℕ → List ℕ → List ℕ
line name value = name ++ (32 ∷ (value ++ (10 ∷ [])))
