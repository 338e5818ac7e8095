-- Eighths of the factor, and the ends of what 16QAM loses about 2f as plain numbers (D14). Assumes nothing.
use Rattle.std.specs.Prelude.{ℕ, ◌+◌, ◌*◌, ◌^◌, ◌<◌, false, ◌≡◌, negsuc, Float}
use Rattle.std.specs.Float.{fin}
use Rattle.constellation.specs.Factors.{qam_numerator}
use Rattle.slicing.specs.Distances.{scaled}

-- y is k eighths of x in size, exactly, for finite numbers other than zero
abbrev pub Eighths : ℕ → Float → Float → Type 0
Eighths k x y = (0 < scaled y x) × (8 * scaled y x ≡ k * scaled x y)

-- the n of the low end n / 2^53, 2f less f/8 rounded once, and of the high end, 2f plus f/8
abbrev pub low_numerator : ℕ
low_numerator = 5340612184491134

abbrev pub high_numerator : ℕ
high_numerator = 6052693809089952

-- n / 2^53 is the f64 nearest to k eighths of f = m / 2^54, said over whole numbers: n has 53 bits and is above 2^52, so its neighbours are
-- n - 1 and n + 1, and 16·n differs from k·m by less than 8
abbrev pub NearestEnd : ℕ → ℕ → Type 0
NearestEnd k n = (2 ^ 52 < n) × (n < 2 ^ 53) × (16 * n < k * qam_numerator + 8) × (k * qam_numerator < 16 * n + 8)

-- the two numbers; `negsuc 52` is -53
abbrev pub low_end : Float
low_end = fin false low_numerator (negsuc 52)

abbrev pub high_end : Float
high_end = fin false high_numerator (negsuc 52)
