-- A word or a block by the kind of its card, and the lines of a refusal. Assumes nothing.
use Rattle.std.specs.Prelude.{Bool, true, false, cond, List, ◌++◌, ℕ, get_or}
use Rattle.refusal.specs.declared.Refusal.{Refusal}
use Rattle.refusal.specs.Report.{Report, done, refused, refusal, number, values}
use Rattle.refusal.specs.Outcome.{Outcome}
use Rattle.text.specs.Text.{ascii, decimal, line}
use Rattle.card.specs.declared.Card.{Card}
use Rattle.card.specs.Gate.{gate}
use Rattle.frame_control.specs.Entries.{send as frame_send, read as frame_read}
use Rattle.payload.specs.Entries.{send as payload_send, read as payload_read}

-- whether a card goes to frame control, by what the gate of payload says: every one that payload does not serve, since a card that reading
-- refuses is refused alike by every entry
abbrev pub of_frame : Report Card → Bool
of_frame (done c) = false
of_frame (refused n v w) = true

-- sending by the card's kind
unfoldable pub send : List ℕ → List ℕ → List ℕ → Outcome ℕ (List ℕ)
send card block out = cond (of_frame (gate 1 4 card)) (frame_send card block out) (payload_send card block out)

-- reading by the card's kind
unfoldable pub read : List ℕ → List ℕ → List ℕ → Outcome ℕ (List ℕ)
read card items out = cond (of_frame (gate 1 4 card)) (frame_read card items out) (payload_read card items out)

-- a refusal's number, as a refused card prints it, and a line with what comes with it
unfoldable pub refusal_lines : Refusal → List ℕ
refusal_lines r =
    line (ascii "refused") (decimal (number (refusal {A = ℕ} r)))
    ++ line (ascii "value") (decimal (get_or (values (refusal r)) 0 0))
