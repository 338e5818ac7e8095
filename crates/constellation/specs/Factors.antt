-- The factor f of each modulation (paper 01, "Points"; 000, Table 18), as an f64's own number. Assumes nothing.
use Rattle.std.specs.Prelude.{ℕ, ◌+◌, ◌-◌, ◌*◌, ◌^◌, ◌<◌, false, cond, eqb, pos, negsuc, Float}
use Rattle.std.specs.Float.{fin}

-- what goes by the modulation: 0 BPSK, 1 QPSK, 2 16QAM
abbrev pub by_modulation : {A : Type 0} → ℕ → A → A → A → A
by_modulation modulation bpsk qpsk qam = cond (eqb modulation 0) bpsk (cond (eqb modulation 1) qpsk qam)

-- m is the whole number nearest to 2^h/√k, said over whole numbers
abbrev pub Nearest : ℕ → ℕ → ℕ → Type 0
Nearest k h m = (k * (2 * m - 1) ^ 2 < 2 ^ (2 * h + 2)) × (2 ^ (2 * h + 2) < k * (2 * m + 1) ^ 2)

-- the m of QPSK's factor m / 2^53 and of 16QAM's m / 2^54
abbrev pub qpsk_numerator : ℕ
qpsk_numerator = 6369051672525773

abbrev pub qam_numerator : ℕ
qam_numerator = 5696652996790543

-- f: `fin false m e` is the f64 of m · 2^e, and `negsuc 52` is -53
abbrev pub factor_of : ℕ → Float
factor_of modulation = by_modulation modulation (fin false 1 (pos 0)) (fin false qpsk_numerator (negsuc 52)) (fin false qam_numerator (negsuc 53))
