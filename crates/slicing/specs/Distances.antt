-- The sizes of two numbers compared, and how far a coordinate lies from a level, exactly. Assumes nothing.
use Rattle.std.specs.Prelude.{ℕ, ◌+◌, ◌-◌, ◌*◌, Bool, false, cond, leb, ltb, Float}
use Rattle.std.specs.Bool.{beq}
use Rattle.std.specs.Float.{nan, inf, fin}
use Rattle.std.specs.Float.Ieee.{up, down}

-- the sizes of x and y are to each other as scaled x y to scaled y x, for finite x and y
abbrev pub scaled : Float → Float → ℕ
scaled nan y = 0
scaled (inf s) y = 0
scaled (fin s n e) nan = 0
scaled (fin s n e) (inf t) = 0
scaled (fin s n e) (fin t k d) = n * up e * down d

-- the size of x is at most that of y, for finite x and y
abbrev pub at_most : Float → Float → Bool
at_most x y = leb (scaled x y) (scaled y x)

abbrev pub negative : Float → Bool
negative nan = false
negative (inf s) = s
negative (fin s n e) = s

-- the distance of two numbers, each a sign and a size
abbrev pub apart : Bool → ℕ → Bool → ℕ → ℕ
apart s a t b = cond (beq s t) (a - b + (b - a)) (a + b)

-- the distance of x from the level of the sign t and the size k times f, in a unit that x and f alone decide
abbrev pub distance : Float → Float → Bool → ℕ → ℕ
distance f x t k = apart (negative x) (scaled x f) t (k * scaled f x)

-- the sign of the levels -1, 1 by their index, and the sign and the size of -3, -1, 1, 3
abbrev pub negative2 : ℕ → Bool
negative2 k = ltb k 1

abbrev pub negative4 : ℕ → Bool
negative4 k = ltb k 2

abbrev pub size4 : ℕ → ℕ
size4 k = 2 * k - 3 + (3 - 2 * k)
