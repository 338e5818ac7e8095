-- The constituent encoder and its two passes. A state is a row of three bits s1 s2 s3, and a number below 8, s1 its highest bit.
-- Assumes nothing.
use Rattle.std.specs.Prelude.{List, [], ◌∷◌, ℕ, zero, suc, ◌+◌, ◌*◌, ◌/◌, ◌%◌, get_or}
use Rattle.std.specs.Int.Bits.{bit_xor}
use Rattle.bits.specs.Bits.{bit_at}
use Rattle.constituent.specs.Pairs.{pair_count}

-- sums mod 2, bit by bit
unfoldable pub plus : ℕ → ℕ → ℕ
plus a b = bit_xor a b

-- the step without input: (s1, s2, s3) goes to (s3, s1, s2 + s3)
unfoldable pub zero_input_step : ℕ → ℕ
zero_input_step s = bit_at 0 s * 4 + bit_at 2 s * 2 + (bit_at 1 s + bit_at 0 s) % 2

-- the taps: B1 (3 bits), B2 (3), C (3), D1 and D2, packed in this order in eleven bits
abbrev pub tap_b1 : ℕ → ℕ
tap_b1 taps = taps / 256 % 8

abbrev pub tap_b2 : ℕ → ℕ
tap_b2 taps = taps / 32 % 8

abbrev pub tap_c : ℕ → ℕ
tap_c taps = taps / 4 % 8

abbrev pub tap_d1 : ℕ → ℕ
tap_d1 taps = taps / 2 % 2

abbrev pub tap_d2 : ℕ → ℕ
tap_d2 taps = taps % 2

-- the step with the pair u: B1 is added to the new state when u1 is 1, and B2 when u2 is 1
unfoldable pub next : ℕ → ℕ → ℕ → ℕ
next taps s u = plus (zero_input_step s) (plus (bit_at 1 u * tap_b1 taps) (bit_at 0 u * tap_b2 taps))

-- the product of two rows of three bits, before it is reduced mod 2
abbrev pub dot : ℕ → ℕ → ℕ
dot a b = bit_at 2 a * bit_at 2 b + bit_at 1 a * bit_at 1 b + bit_at 0 a * bit_at 0 b

-- the parity bit, s·C + D1·u1 + D2·u2, with the state s as it stood before the step
unfoldable pub parity : ℕ → ℕ → ℕ → ℕ
parity taps s u = (dot s (tap_c taps) + tap_d1 taps * bit_at 1 u + tap_d2 taps * bit_at 0 u) % 2

-- the state after the pairs p 0, .., p (t - 1), from the state s
unfoldable pub state_at : ℕ → (ℕ → ℕ) → ℕ → ℕ → ℕ
state_at taps p s zero = s
state_at taps p s (suc t) = next taps (state_at taps p s t) (p t)

-- the three matrices, by rows: for 16, 72 and 520 bytes, for 136, and for 264
abbrev pub matrix16 : List ℕ
matrix16 = 0b001 ∷ 0b101 ∷ 0b111 ∷ []

abbrev pub matrix136 : List ℕ
matrix136 = 0b011 ∷ 0b100 ∷ 0b010 ∷ []

abbrev pub matrix264 : List ℕ
matrix264 = 0b101 ∷ 0b111 ∷ 0b110 ∷ []

abbrev pub matrix : ℕ → List ℕ
matrix kind = get_or (matrix16 ∷ matrix16 ∷ matrix136 ∷ matrix264 ∷ matrix16 ∷ []) kind []

-- a row of three bits times a matrix
abbrev pub times : ℕ → List ℕ → ℕ
times s m = plus (bit_at 2 s * get_or m 0 0) (plus (bit_at 1 s * get_or m 1 0) (bit_at 0 s * get_or m 2 0))

-- where pass two starts when pass one ends at sn: SN times M
unfoldable pub start_of : ℕ → ℕ → ℕ
start_of kind sn = times sn (matrix kind)

-- where pass two over the pairs p starts; pass one starts at zero and goes over the whole block
unfoldable pub ring_start : ℕ → ℕ → (ℕ → ℕ) → ℕ
ring_start kind taps p = start_of kind (state_at taps p 0 (pair_count kind))

-- the parity bit that pass two gives at t
unfoldable pub parity_at : ℕ → ℕ → (ℕ → ℕ) → ℕ → ℕ
parity_at kind taps p t = parity taps (state_at taps p (ring_start kind taps p) t) (p t)
