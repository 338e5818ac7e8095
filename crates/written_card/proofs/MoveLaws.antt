-- Moving a card: with its other fields to the version asked for, there and back as the same bytes, and back to version 1 exactly where it
-- says one block and one copy. Assumes nothing.
use mathlib.Core.Path.{◌≡◌, refl, sym, ap, ◌∙◌}
use mathlib.Core.Bool.{true, false}
use mathlib.Core.List.{List, ◌++◌}
use Prim.Native.Nat.{ℕ, ◌≤◌, ◌<◌, ◌^◌}
use native.Mathlib.Omega.{arith}
use lib.Dec.{eqb}
use lib.ListN.{length, get_or, take, drop}
use lib.Seq.{take_at}
use borrow.Author.Tests.{le-ltb, ltb-false, not-false}
use Rattle.bits.proofs.BoolLaws.{both}
use Rattle.refusal.specs.declared.Refusal.TheVariants.{Counts}
use Rattle.refusal.specs.Report.{done, refusal}
use Rattle.refusal.specs.Outcome.{Outcome}
use Rattle.refusal.proofs.OutcomeLaws.{done-same, outcome-done, outcome-good}
use Rattle.card.specs.declared.Card.{Card}
use Rattle.card.specs.Modes.{single, defined}
use Rattle.card.specs.Card.{card_bytes, card_of, bytes_of_card}
use Rattle.card.specs.Entries.{is_version, read_card}
use Rattle.card.proofs.ModeLaws.{single-is}
use Rattle.card.proofs.GateLaws.{card-read, read-sound, card-serial}
use Rattle.written_card.specs.Entries.{put_rows, put_into, in_version, move_rows, move_card}
use Rattle.written_card.specs.Loops.Fields.{put_card}
use Rattle.written_card.proofs.WriteLaws.{length-card, fits_in}
use Rattle.written_card.proofs.RowLaws.{said, not-unsaid, sound-says, read_fits, move_read}
use Rattle.written_card.proofs.RoundTrip.{reads-back, put_back}

-- what holds of a card that can be moved to a version, into some memory
pub record Movable (c : Card) (version : ℕ) (out : List ℕ) : Type 0 where
  pub is-version : is_version version ≡ true
  pub says : version ≡ 1 → single c ≡ true
  pub room : card_bytes version ≤ length out

module _ (bytes : List ℕ) (c : Card) (read : read_card bytes ≡ done c) where
  -- a card of version 1 says one block and one copy
  says-counts : c.version ≡ 1 → single c ≡ true
  says-counts is = let same = card-read bytes c read in rw same (sound-says bytes (read-sound bytes c read) (sym (ap (λ d. d.version) same) ∙ is))

  module _ (version : ℕ) (out : List ℕ) where
    -- ---- where it is moved

    -- A card that can be moved is moved: the bytes of the same card in that version, with all behind them kept.
    pub moved : Movable c version out → move_card bytes version out ≡ record { report = done (card_bytes version); out = put_into (in_version version c) out }
    unfolding put_card
    moved m =
        move_read bytes version out m.is-version c read
        ∙ outcome-good {A = ℕ} (put_rows (in_version version c) out) out (card_bytes version) (put_into (in_version version c) out)
        (le-ltb (length out) (card_bytes version) m.room, (not-unsaid (in_version version c) m.says, tt))

    -- those bytes are read as that card
    again : Movable c version out → (n : ℕ) → n ≡ card_bytes version → read_card (take n (move_card bytes version out).out) ≡ done (in_version version c)
    again m n long =
        let sound = read-sound bytes c read in
        let same = card-read bytes c read in
        let spare : eqb c.spare 0 ≡ true = rw same (both (is_version (card_of bytes).version) (eqb (card_of bytes).spare 0) sound.versions).1 in
        let serial : c.serial < 2 ^ 64 = rw same (card-serial bytes) in
        let mode : defined c ≡ true = rw same sound.mode in
        let d = in_version version c in
        ap read_card (ap (λ o. take n o.out) (moved m) ∙ take_at (bytes_of_card d) (drop (card_bytes version) out) n (length-card d ∙ sym long))
        ∙ reads-back d (fits_in version c m.is-version (read_fits bytes c read)) m.says serial (rw (m.is-version, spare) refl) mode

    -- a card that was moved could be
    movable : (n : ℕ) → (move_card bytes version out).report ≡ done n → Movable c version out
    unfolding move_card
    movable n wrote =
        let d = in_version version (card_of bytes) in
        let (_, (_, (is, (_, (_, (room, (unsaid, _))))))) = outcome-done {A = ℕ} (move_rows bytes version out) out (card_bytes version) n (put_into d out) wrote in
        record {
          is-version = not-false (is_version version) is;
          says = λ one. rw (card-read bytes c read) (said d unsaid one);
          room = ltb-false (length out) (card_bytes version) room;
        }

    written : (n : ℕ) → (move_card bytes version out).report ≡ done n → n ≡ card_bytes version
    written n wrote = done-same (sym wrote ∙ ap (λ o. o.report) (moved (movable n wrote)))

    -- Where it is moved, what was written is read as the same card in the version asked for.
    pub read-after-move : (n : ℕ) → (move_card bytes version out).report ≡ done n → read_card (take n (move_card bytes version out).out) ≡ done (in_version version c)
    read-after-move n wrote = again (movable n wrote) n (written n wrote)

  -- ---- back to the version that it has

  long : length bytes ≡ card_bytes c.version
  long = (read-sound bytes c read).long ∙ ap (λ d. card_bytes d.version) (sym (card-read bytes c read))

  pub own-version : (out : List ℕ) → length bytes ≤ length out → Movable c c.version out
  own-version out space =
      record {
        is-version = rw (card-read bytes c read) (both (is_version (card_of bytes).version) (eqb (card_of bytes).spare 0) (read-sound bytes c read).versions).0;
        says = says-counts;
        room = omega (arith, long);
      }

  pub own-bytes : ((i : ℕ) → get_or bytes i 0 < 256) → (out : List ℕ)
      → ◌≡◌ {A = Outcome ℕ (List ℕ)} (record { report = done (card_bytes c.version); out = put_into c out }) (record { report = done (length bytes); out = bytes ++ drop (length bytes) out })
  own-bytes small out =
      ap (λ (d : Card). record { report = done (card_bytes d.version); out = put_into d out }) (card-read bytes c read) ∙ put_back bytes small (read-sound bytes c read) out

-- ---- the theorems over the entries' definitions

module _ (bytes : List ℕ) (c : Card) (read : read_card bytes ≡ done c) where
  -- A card of the version asked for comes back byte for byte.
  pub same_version : ((i : ℕ) → get_or bytes i 0 < 256) → (out : List ℕ) → length bytes ≤ length out
      → move_card bytes c.version out ≡ record { report = done (length bytes); out = bytes ++ drop (length bytes) out }
  same_version small out space = moved bytes c read c.version out (own-version bytes c read out space) ∙ own-bytes bytes c read small out

  -- There and back gives the same bytes, whichever version it has and is moved to.
  pub there_and_back : ((i : ℕ) → get_or bytes i 0 < 256) → (version : ℕ) (out : List ℕ) (n : ℕ) → (move_card bytes version out).report ≡ done n
      → (back : List ℕ) → length bytes ≤ length back
      → move_card (take n (move_card bytes version out).out) c.version back ≡ record { report = done (length bytes); out = bytes ++ drop (length bytes) back }
  there_and_back small version out n wrote back space =
      let own = own-version bytes c read back space in
      moved (take n (move_card bytes version out).out) (in_version version c) (read-after-move bytes c read version out n wrote) c.version back
      (record { is-version = own.is-version; says = own.says; room = own.room })
      ∙ own-bytes bytes c read small back

  -- A card of version 1 moves to version 2 with its other fields, one block and one copy.
  pub moves-up : c.version ≡ 1 → (out : List ℕ) → 12 ≤ length out
      → ((move_card bytes 2 out).report ≡ done 12) × (read_card (take 12 (move_card bytes 2 out).out) ≡ done (in_version 2 c)) × (c.blocks ≡ 1) × (c.copies ≡ 1)
  moves-up is out room =
      let wrote : (move_card bytes 2 out).report ≡ done 12 = ap (λ o. o.report) (moved bytes c read 2 out (record { is-version = refl; says = λ one. absurd (omega arith); room = room })) in
      let (blocks, copies) = single-is c (says-counts bytes c read is) in
      (wrote, read-after-move bytes c read 2 out 12 wrote, blocks, copies)

  -- A card of version 2 moves back, with its other fields, where it says one block and one copy,
  pub moves-back : c.version ≡ 2 → single c ≡ true → (out : List ℕ) → 11 ≤ length out
      → ((move_card bytes 1 out).report ≡ done 11) × (read_card (take 11 (move_card bytes 1 out).out) ≡ done (in_version 1 c))
  moves-back is one out room =
      let wrote : (move_card bytes 1 out).report ≡ done 11 = ap (λ o. o.report) (moved bytes c read 1 out (record { is-version = refl; says = λ _. one; room = room })) in
      (wrote, read-after-move bytes c read 1 out 11 wrote)

  -- only there,
  pub back-only-single : (out : List ℕ) (n : ℕ) → (move_card bytes 1 out).report ≡ done n → single c ≡ true
  back-only-single out n wrote = (movable bytes c read 1 out n wrote).says refl

  -- and is 11 otherwise.
  pub stays : single c ≡ false → (out : List ℕ) → 11 ≤ length out → move_card bytes 1 out ≡ record { report = refusal Counts; out = out }
  unfolding put_card
  stays more out room = move_read bytes 1 out refl c read ∙ (rw (le-ltb (length out) 11 room, more) refl)
