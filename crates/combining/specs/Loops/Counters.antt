-- The counters of votes of a bit, one for each of its two lanes of the cycle. Assumes nothing.
use Rattle.std.specs.Prelude.{List, ℕ, ◌+◌, ◌*◌, ◌/◌, ◌%◌, get_or}

-- the counters of bit b as one, modulo 256: that of lane I at place b, and that of lane Q at the place 128 on, or back
unfoldable pub bit_sum : List ℕ → ℕ → ℕ
bit_sum counters b = (get_or counters (2 * b) 0 + get_or counters (2 * ((b + 128) % 256) + 1) 0) % 256

-- the same from pairs, each with lane I's counter as its low byte and lane Q's as its high one
unfoldable pub pair_sum : List ℕ → ℕ → ℕ
pair_sum pairs b = (get_or pairs b 0 % 256 + get_or pairs ((b + 128) % 256) 0 / 256) % 256
