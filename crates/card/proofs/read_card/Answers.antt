-- `card::read_card` meets its contract: each return is a row of its table. Assumes nothing.
use mathlib.Core.Path.{sym, ap, ◌∙◌}
use borrow.Author.Tests.{eq-eqb, ne_eqb}
use Rattle.refusal.specs.Report.{done}
use Rattle.card.specs.Entries.{read_card}
use Rattle.card.proofs.ReadLaws.{Versioned, read-versioned}
use Rattle.card.proofs.read_card.Goals as goal
use Rattle.card.proofs.read_card.Goals.{Else-is_padded, then-not-is_versioned-via-then-not-is_versioned, then-not-is_versioned-via-else-not-is_versioned+then-is_padded}

-- what is known of the bytes behind the padding
versioned-here : (c : Else-is_padded) → Versioned c.args.card.now
versioned-here c =
    let is = c.unpack-c.ensures in
    record {
      either = sym c.is_length.ensures ∙ c.if-not-is_length.false;
      versions = rw is at (sym c.is_versioned.ensures) ∙ c.if-not-is_versioned.false;
      clear = rw is at (sym c.is_padded.ensures) ∙ c.if-is_padded.false;
    }

pub returns-then-not-is_length : goal.returns-then-not-is_length
unfolding read_card
returns-then-not-is_length c = simp (sym c.is_length.ensures ∙ c.if-not-is_length.true)

pub unpack-c-requires : goal.unpack-c-requires
unpack-c-requires c = sym c.is_length.ensures ∙ c.if-not-is_length.false

pub returns-then-not-is_versioned : goal.returns-then-not-is_versioned
unfolding read_card
returns-then-not-is_versioned c =
    let is = c.unpack-c.ensures in
    let long = sym c.is_length.ensures ∙ c.if-not-is_length.false in
    let version = rw is at (sym c.is_versioned.ensures) in
    elim c.then-not-is_versioned.branch [
      | then-not-is_versioned-via-then-not-is_versioned w ↦ simp (long, version ∙ w.if-not-is_versioned.true)
      | then-not-is_versioned-via-else-not-is_versioned+then-is_padded w ↦
          let pad = rw is at (sym w.is_padded.ensures) in simp (long, version ∙ w.if-not-is_versioned.false, pad ∙ w.if-is_padded.true)
    ]

pub returns-then-card-card_bytes : goal.returns-then-card-card_bytes
returns-then-card-card_bytes c =
    let is = c.unpack-c.ensures in
    let other = rw (rw is at c.card_bytes.ensures) at c.if-card-card_bytes.true in
    simp (read-versioned _ (versioned-here (goal.at.returns-then-card-card_bytes c).Else-is_padded), ne_eqb _ _ other)

pub returns-then-not-is_defined : goal.returns-then-not-is_defined
returns-then-not-is_defined c =
    let is = c.unpack-c.ensures in
    let same = rw (rw is at c.card_bytes.ensures) at c.if-card-card_bytes.false in
    let mode = rw is at (sym c.is_defined.ensures) in
    simp (read-versioned _ (versioned-here (goal.at.returns-then-not-is_defined c).Else-is_padded), eq-eqb _ _ same, mode ∙ c.if-not-is_defined.true)

pub returns : goal.returns
returns c =
    let is = c.unpack-c.ensures in
    let same = rw (rw is at c.card_bytes.ensures) at c.if-card-card_bytes.false in
    let mode = rw is at (sym c.is_defined.ensures) in
    simp (read-versioned _ (versioned-here (goal.at.returns c).Else-is_padded), eq-eqb _ _ same, mode ∙ c.if-not-is_defined.false) (ap done is)
