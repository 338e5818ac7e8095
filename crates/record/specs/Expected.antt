-- What a record expects of its call: a number, a value, and an output that is untouched beyond the expected bytes. Assumes nothing.
use Rattle.std.specs.Prelude.{Bool, cond, ◌&&◌, List, ℕ, ◌+◌, ◌*◌, ◌/◌, eqb, leb, ltb, Float, length, get_or, replicate}
use Rattle.std.specs.Float.{nan, binary64}
use Rattle.std.specs.Float.Ieee.{eq, to_bits}
use Rattle.bits.specs.Bits.{field}
use Rattle.bits.specs.Ranges.{all_below}
use Rattle.refusal.specs.Report.{Report, number, values}
use Rattle.record.specs.declared.Record.{Record}
use Rattle.record.specs.declared.Given.{Given}

-- byte i of some bytes, and the word of eight from `at` on; of an untouched output beyond them
abbrev pub byte_at : List ℕ → ℕ → ℕ
byte_at bytes i = cond (ltb i (length bytes)) (get_or bytes i 0) 165

abbrev pub word_at : List ℕ → ℕ → ℕ
word_at bytes at = cond (ltb (length bytes) (at + 8)) 11936128518282651045 (field bytes (8 * at) 64)

-- the most bytes of an input or an output, and the most words or floats of an output: a card has ten fields and a point two coordinates
abbrev pub most_bytes : ℕ
most_bytes = 131072

abbrev pub most_words : ℕ
most_words = 1000

-- n untouched elements, the most of an output
unfoldable pub most : {A : Type 0} → ℕ → A → List A
most n a = replicate n a

-- a float is no NaN, and has the bits
abbrev pub has_bits : Float → ℕ → Bool
has_bits x bits = eq x x && eqb (to_bits binary64 x) bits

-- element i of an output is as expected: a byte, a word, and a float whose bits are the word
abbrev pub same_byte : List ℕ → List ℕ → ℕ → Bool
same_byte out expected i = eqb (get_or out i 0) (byte_at expected i)

abbrev pub same_word : List ℕ → List ℕ → ℕ → Bool
same_word out expected i = eqb (get_or out i 0) (word_at expected (8 * i))

abbrev pub same_float : List Float → List ℕ → ℕ → Bool
same_float out expected i = has_bits (get_or out i nan) (word_at expected (8 * i))

-- an output of n elements is as expected at each, and has room for all that is expected
abbrev pub holds : ℕ → ℕ → (ℕ → Bool) → Bool
holds n expected same = all_below n same && leb expected n

-- an output has what is expected at its start and is untouched beyond
unfoldable pub holds_bytes : List ℕ → List ℕ → Bool
holds_bytes out expected = holds (length out) (length expected) (same_byte out expected)

unfoldable pub holds_words : List ℕ → List ℕ → Bool
holds_words out expected = holds (length out) (length expected / 8) (same_word out expected)

unfoldable pub holds_floats : List Float → List ℕ → Bool
holds_floats out expected = holds (length out) (length expected / 8) (same_float out expected)

-- a report has the number and the value that a record expects, and nothing in the second value
abbrev pub as_expected : Record → Report ℕ → Bool
as_expected r report = eqb (number report) r.number && eqb (get_or (values report) 0 0) r.value && eqb (get_or (values report) 1 0) 0

-- what a call gave, of which the output is as expected or not
unfoldable pub compared : Record → Report ℕ → Bool → Given
compared r report held = record { number = number report; value = get_or (values report) 0 0; agrees = as_expected r report && held }
