-- Laws of the gate, over any kinds that an entry serves and any rows behind the card's. Assumes nothing.
use mathlib.Core.Path.{◌≡◌, refl, sym, ap, ◌∙◌}
use mathlib.Core.Bool.{true, false, not}
use mathlib.Core.List.{List, [], ◌∷◌, ◌++◌}
use Prim.Native.Nat.{ℕ, ◌<◌, ◌^◌}
use lib.Dec.{eqb, leb}
use lib.ListN.{length}
use borrow.Author.Tests.{eqb-true, leb-true, not-false}
use Rattle.bits.proofs.BitLaws.{field-none, field_lt}
use Rattle.bits.proofs.BoolLaws.{test-cases, both, neither}
use Rattle.refusal.specs.declared.Refusal.{Refusal}
use Rattle.refusal.specs.declared.Refusal.TheVariants.{Mode}
use Rattle.refusal.specs.Report.{done, refusal}
use Rattle.refusal.specs.Outcome.{Row, row, first_applicable, row_order, in_order, outcome}
use Rattle.refusal.proofs.OutcomeLaws.{NoneApplies, none-parts, outcome_by, done-same, reported-done, refused-report, passed-report, refused-outcome, passed-outcome}
use Rattle.card.specs.declared.Card.{Card}
use Rattle.card.specs.Card.{card_bytes, card_of}
use Rattle.card.specs.Modes.{single, defined}
use Rattle.card.specs.Entries.{versioned, padded, card_rows, read_card}
use Rattle.card.specs.Gate.{within, gate_rows, gate, Served}
use Rattle.card.proofs.ModeLaws.{defined-mode, defined-card}

-- a card that is read is the one in the bytes
pub card-read : (card : List ℕ) (c : Card) → read_card card ≡ done c → c ≡ card_of card
unfolding read_card
card-read card c e = done-same (sym e ∙ (reported-done (card_rows card) (card_of card) c e).1)

-- what the rows of a card that is read say of its bytes
pub record Sound (bytes : List ℕ) : Type 0 where
  pub versions : versioned (card_of bytes) ≡ true
  pub clear : padded bytes ≡ false
  pub long : length bytes ≡ card_bytes (card_of bytes).version
  pub mode : defined (card_of bytes) ≡ true

pub card-sound : (bytes : List ℕ) → NoneApplies (in_order row_order (card_rows bytes)) → Sound bytes
card-sound bytes (either, (version, (long, (mode, none)))) =
    let (versions, clear) = neither (not (versioned (card_of bytes))) (padded bytes) version in
    record {
      versions = not-false _ versions;
      clear = clear;
      long = eqb-true (length bytes) (card_bytes (card_of bytes).version) (not-false _ long);
      mode = not-false _ mode;
    }

pub read-sound : (bytes : List ℕ) (c : Card) → read_card bytes ≡ done c → Sound bytes
unfolding read_card
read-sound bytes c e = card-sound bytes (reported-done (card_rows bytes) (card_of bytes) c e).0

-- taps have eleven bits
pub card-taps : (card : List ℕ) → (card_of card).taps < 2 ^ 11
unfolding card_of
card-taps card = field_lt card 12 11

-- the serial has 64
pub card-serial : (card : List ℕ) → (card_of card).serial < 2 ^ 64
unfolding card_of
card-serial card = test-cases (eqb (length card) 12) (λ is. rw is (field_lt card 32 64)) (λ other. rw other (field_lt card 24 64))

-- eleven bytes say one block and one copy
pub eleven-single : (card : List ℕ) → length card ≡ 11 → single (card_of card) ≡ true
unfolding card_of
eleven-single card long = rw (long, field-none card 24) refl

module _ (first last : ℕ) (card : List ℕ) where
  abbrev kind_row : List Row
  kind_row = row (not (within first last (card_of card))) Mode ∷ []

  -- ---- by what reading the card reports

  -- a card that reading refuses is refused alike by every entry
  pub refused-alike : (r : Refusal) → read_card card ≡ refusal r → gate first last card ≡ refusal r
  unfolding read_card gate
  refused-alike r e = refused-report (card_rows card) kind_row (card_of card) r (card_of card) e

  by_kind : (c : Card) → read_card card ≡ done c → gate first last card ≡ first_applicable kind_row refusal (done (card_of card))
  unfolding read_card gate
  by_kind c e = passed-report (card_rows card) kind_row (card_of card) c (card_of card) e

  pub other-kind : (c : Card) → read_card card ≡ done c → within first last c ≡ false → gate first last card ≡ refusal Mode
  other-kind c e other = by_kind c e ∙ (rw (← card-read card c e, other))

  pub served-kind : (c : Card) → read_card card ≡ done c → within first last c ≡ true → gate first last card ≡ done c
  served-kind c e is = by_kind c e ∙ (rw (← card-read card c e, is))

  -- ---- a card that passes is the one in the bytes, and the entry serves it

  pub gate-card : (c : Card) → gate first last card ≡ done c → c ≡ card_of card
  unfolding gate
  gate-card c e = done-same (sym e ∙ (reported-done (gate_rows first last card) (card_of card) c e).1)

  pub gate-served : (c : Card) → gate first last card ≡ done c → Served first last c
  unfolding gate
  gate-served c e =
      let d = card_of card in
      let (none, (kind, _)) = none-parts (card_rows card) kind_row (reported-done (gate_rows first last card) d c e).0 in
      let is = (card-sound card none).mode in
      let (low, high) = both (leb first d.kind) (leb d.kind last) (not-false (within first last d) kind) in
      let (modes, blocks, copies) = defined-card d is in
      let (kinds, bands, modulations) = defined-mode d.band d.kind d.rate d.modulation modes in
      rw (gate-card c e)
      (record {
        mode = is;
        kinds = kinds;
        from_first = leb-true first d.kind low;
        to_last = leb-true d.kind last high;
        band-lt = bands;
        modulation-lt = modulations;
        taps-lt = card-taps card;
        blocks = blocks;
        copies = copies;
      })

  -- ---- the outcome of an entry whose own rows stand behind the card's

  module _ {A B : Type 0} (rows : Card → List Row) (out : B) (a : Card → A) (made : Card → B)
      (behind : in_order row_order (gate_rows first last card ++ rows (card_of card)) ≡ gate_rows first last card ++ in_order row_order (rows (card_of card))) where
    -- where the gate refuses, its refusal, and the lent memory kept
    pub gate-refuses : (r : Refusal) → gate first last card ≡ refusal r
        → outcome (gate_rows first last card ++ rows (card_of card)) out (a (card_of card)) (made (card_of card)) ≡ record { report = refusal r; out = out }
    unfolding gate
    gate-refuses r e =
        ap (λ (rs : List Row). outcome_by rs out (a (card_of card)) (made (card_of card))) behind
        ∙ refused-outcome (gate_rows first last card) (in_order row_order (rows (card_of card))) (card_of card) r out (a (card_of card)) (made (card_of card)) e

    -- where it lets a card pass, the outcome of the entry's own rows
    pub gate-passes : (c : Card) → gate first last card ≡ done c
        → outcome (gate_rows first last card ++ rows (card_of card)) out (a (card_of card)) (made (card_of card)) ≡ outcome (rows c) out (a c) (made c)
    unfolding gate
    gate-passes c e =
        ap (λ (rs : List Row). outcome_by rs out (a (card_of card)) (made (card_of card))) behind
        ∙ passed-outcome (gate_rows first last card) (in_order row_order (rows (card_of card))) (card_of card) c out (a (card_of card)) (made (card_of card)) e
        ∙ ap (λ (d : Card). outcome (rows d) out (a d) (made d)) (sym (gate-card c e))
