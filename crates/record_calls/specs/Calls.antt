-- What the call of a record gives: the entry that it names, on an untouched output of the record's room. Assumes nothing.
use Rattle.std.specs.Prelude.{Bool, cond, List, ℕ, eqb, ltb, take}
use Rattle.std.specs.Float.Ieee.{of_bits}
use Rattle.std.specs.Float.{binary64}
use Rattle.refusal.specs.Outcome.{Outcome}
use Rattle.card.specs.declared.Card.{Card}
use Rattle.card.specs.Entries.{read_fields}
use Rattle.written_card.specs.Entries.{write_card, move_card}
use Rattle.printed_card.specs.Text.{text_card}
use Rattle.constellation.specs.Entries.{map_outcome}
use Rattle.slicing.specs.Entries.{received_of, slice_outcome}
use Rattle.frame_control.specs.Entries.{send as frame_send, read as frame_read}
use Rattle.payload.specs.Entries.{send as payload_send, read as payload_read}
use Rattle.record.specs.declared.Record.{Record}
use Rattle.record.specs.declared.Given.{Given}
use Rattle.record.specs.Expected.{byte_at, word_at, most, most_bytes, most_words, holds_bytes, holds_words, holds_floats, compared}

-- the card whose fields are some words
unfoldable pub card_in : List ℕ → Card
card_in words =
    record {
      version = word_at words 0;
      band = word_at words 8;
      kind = word_at words 16;
      rate = word_at words 24;
      modulation = word_at words 32;
      taps = word_at words 40;
      spare = word_at words 48;
      serial = word_at words 56;
      blocks = word_at words 64;
      copies = word_at words 72;
    }

-- slicing: the modulation, whether the carrier was heard, and the bits of both coordinates
unfoldable pub slice_of : List ℕ → List ℕ → Outcome ℕ (List ℕ)
slice_of card out =
    slice_outcome (byte_at card 0)
    (received_of (byte_at card 1) (of_bits binary64 (word_at card 2)) (of_bits binary64 (word_at card 10))) out

-- the calls whose output is bytes
unfoldable pub bytes_outcome : ℕ → List ℕ → List ℕ → List ℕ → Outcome ℕ (List ℕ)
bytes_outcome call card input out =
    cond (eqb call 0) (frame_send card input out)
    (cond (eqb call 1) (frame_read card input out)
    (cond (eqb call 2) (payload_send card input out)
    (cond (eqb call 3) (payload_read card input out)
    (cond (eqb call 5) (text_card card out)
    (cond (eqb call 8) (write_card (card_in card) out)
    (cond (eqb call 9) (move_card card (word_at input 0) out) (slice_of card out)))))))

-- an outcome compared with what a record expects, the output by a test
abbrev pub judged : {B : Type 0} → Record → Outcome ℕ B → (B → Bool) → Given
judged r o held = compared r o.report (held o.out)

-- the room of a record, at most n elements, and an untouched output of so many
abbrev pub room : ℕ → Record → ℕ
room n r = cond (ltb r.room n) r.room n

abbrev pub untouched : {A : Type 0} → ℕ → Record → A → List A
untouched n r a = take (room n r) (most n a)

-- what the call of a record gives, by the card, the input and the expected output that stand in the record
unfoldable pub given : Record → List ℕ → List ℕ → List ℕ → Given
given r card input expected =
    cond (eqb r.call 4) (judged r (read_fields card (untouched most_words r 11936128518282651045)) (λ out. holds_words out expected))
    (cond (eqb r.call 6) (judged r (map_outcome (byte_at card 0) input (untouched most_words r (of_bits binary64 11936128518282651045))) (λ out. holds_floats out expected))
    (judged r (bytes_outcome r.call card input (untouched most_bytes r 165)) (λ out. holds_bytes out expected)))
