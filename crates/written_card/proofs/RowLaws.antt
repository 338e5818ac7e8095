-- What writing and moving come to, by the tests that the code makes. Assumes nothing.
use mathlib.Core.Path.{◌≡◌, refl, sym, ap, ◌∙◌}
use mathlib.Core.Bool.{Bool, true, false, cond, not, ◌&&◌, ◌||◌}
use mathlib.Core.List.{List}
use Prim.Native.Nat.{ℕ}
use lib.Dec.{eqb, ltb}
use lib.ListN.{length}
use borrow.Author.Tests.{eqb-true, eq-eqb, not-false}
use Rattle.bits.proofs.BoolLaws.{test-cases}
use Rattle.refusal.specs.declared.Refusal.{Refusal}
use Rattle.refusal.specs.declared.Refusal.TheVariants.{CardLength, Version, Room}
use Rattle.refusal.specs.Report.{done, refusal}
use Rattle.refusal.specs.Outcome.{Outcome}
use Rattle.refusal.proofs.OutcomeLaws.{outcome_by, refused-outcome, passed-outcome}
use Rattle.card.specs.declared.Card.{Card}
use Rattle.card.specs.Modes.{single}
use Rattle.card.specs.Card.{card_bytes, card_of}
use Rattle.card.specs.Entries.{is_version, versioned, padded, card_rows, read_card}
use Rattle.card.proofs.GateLaws.{Sound, card-read, read-sound, card-taps, eleven-single}
use Rattle.written_card.specs.Entries.{put_rows, put_into, in_version, move_card}
use Rattle.written_card.specs.Loops.Fields.{Fitting, put_card}
use Rattle.written_card.proofs.WriteLaws.{writable-fits}

-- 5 goes before 11, in writing and in moving
pub put-short : (c : Card) (out : List ℕ) → ltb (length out) (card_bytes c.version) ≡ true
    → put_card c out ≡ record { report = refusal (Room (card_bytes c.version)); out = out }
unfolding put_card
put-short c out short = rw short refl

-- where row 11 does not apply, version 1 says one block and one copy
pub said : (c : Card) → (eqb c.version 1 && not (single c)) ≡ false → c.version ≡ 1 → single c ≡ true
said c e is = not-false (single c) (sym (ap (λ b. b && not (single c)) (eq-eqb c.version 1 is)) ∙ e)

pub not-unsaid : (c : Card) → (c.version ≡ 1 → single c ≡ true) → (eqb c.version 1 && not (single c)) ≡ false
not-unsaid c says = test-cases (eqb c.version 1) (λ is. rw (is, says (eqb-true c.version 1 is)) refl) (λ other. rw other refl)

-- a card of version 1 that is read says so
pub sound-says : (bytes : List ℕ) → Sound bytes → (card_of bytes).version ≡ 1 → single (card_of bytes) ≡ true
sound-says bytes sound is = eleven-single bytes (sound.long ∙ ap card_bytes is)

-- a card that is read fits
pub read_fits : (bytes : List ℕ) (c : Card) → read_card bytes ≡ done c → Fitting c
read_fits bytes c e = let sound = read-sound bytes c e in rw (card-read bytes c e) (writable-fits (card_of bytes) sound.versions sound.mode (card-taps bytes))

module _ (bytes : List ℕ) (version : ℕ) (out : List ℕ) where
  abbrev keeps : Refusal → Outcome ℕ (List ℕ)
  keeps r = record { report = refusal r; out = out }

  -- no such version: the card's length goes before it, and its own version has the same number
  pub move-no-version : is_version version ≡ false
      → move_card bytes version out
      ≡ record { report = cond (eqb (length bytes) 11 || eqb (length bytes) 12) (refusal Version) (refusal (CardLength (length bytes))); out = out }
  unfolding move_card
  move-no-version none = rw none (go (eqb (length bytes) 11 || eqb (length bytes) 12) (not (versioned (card_of bytes)) || padded bytes))
    where
      go : (long other : Bool) → cond (not long) (keeps (CardLength (length bytes))) (cond other (keeps Version) (keeps Version))
          ≡ record { report = cond long (refusal Version) (refusal (CardLength (length bytes))); out = out }
      go true true = refl
      go true false = refl
      go false other = refl

  module _ (is : is_version version ≡ true) where
    pub move-refused : (r : Refusal) → read_card bytes ≡ refusal r → move_card bytes version out ≡ keeps r
    unfolding move_card read_card
    move-refused r e =
        rw is
        (refused-outcome (card_rows bytes) (put_rows (in_version version (card_of bytes)) out) (card_of bytes) r out (card_bytes version) (put_into (in_version version (card_of bytes)) out) e)

    pub move_read : (c : Card) → read_card bytes ≡ done c → move_card bytes version out ≡ put_card (in_version version c) out
    unfolding move_card read_card put_card
    move_read c e =
        rw is
        (passed-outcome (card_rows bytes) (put_rows (in_version version (card_of bytes)) out) (card_of bytes) c out (card_bytes version) (put_into (in_version version (card_of bytes)) out) e
        ∙ ap (λ (d : Card). outcome_by (put_rows (in_version version d) out) out (card_bytes version) (put_into (in_version version d) out)) (sym (card-read bytes c e)))
