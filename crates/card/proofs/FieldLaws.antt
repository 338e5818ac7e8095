-- What reading a card into its fields comes to, by what reading it reports. Assumes nothing.
use mathlib.Core.Path.{◌≡◌, sym, ap, ◌∙◌}
use mathlib.Core.List.{List, [], ◌∷◌, ◌++◌}
use Prim.Native.Nat.{ℕ}
use lib.Dec.{ltb}
use lib.ListN.{length, drop}
use Rattle.refusal.specs.declared.Refusal.{Refusal}
use Rattle.refusal.specs.declared.Refusal.TheVariants.{Room}
use Rattle.refusal.specs.Report.{done, refusal}
use Rattle.refusal.specs.Outcome.{Row, row}
use Rattle.refusal.proofs.OutcomeLaws.{outcome_by, refused-outcome, passed-outcome}
use Rattle.card.specs.declared.Card.{Card}
use Rattle.card.specs.Card.{card_of, fields_of}
use Rattle.card.specs.Entries.{card_rows, read_card, read_fields}
use Rattle.card.proofs.GateLaws.{card-read}

abbrev room : List ℕ → List Row
room fields = row (ltb (length fields) 10) (Room 10) ∷ []

pub fields-refused : (bytes fields : List ℕ) (r : Refusal) → read_card bytes ≡ refusal r → read_fields bytes fields ≡ record { report = refusal r; out = fields }
unfolding read_card read_fields
fields-refused bytes fields r e = refused-outcome (card_rows bytes) (room fields) (card_of bytes) r fields 10 (fields_of (card_of bytes) ++ drop 10 fields) e

pub fields_read : (bytes fields : List ℕ) (c : Card) → read_card bytes ≡ done c → read_fields bytes fields ≡ outcome_by (room fields) fields 10 (fields_of c ++ drop 10 fields)
unfolding read_card read_fields
fields_read bytes fields c e =
    passed-outcome (card_rows bytes) (room fields) (card_of bytes) c fields 10 (fields_of (card_of bytes) ++ drop 10 fields) e
    ∙ ap (λ d. outcome_by (room fields) fields 10 (fields_of d ++ drop 10 fields)) (sym (card-read bytes c e))
