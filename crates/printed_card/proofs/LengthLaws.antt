-- How long the text of a card is. Assumes nothing.
use mathlib.Core.Path.{◌≡◌, refl, sym, ap, ◌∙◌}
use mathlib.Core.List.{List, ◌++◌, append_assoc, append-nil}
use mathlib.Core.Logic.{◌⊎◌, inl, inr}
use Prim.Native.Nat.{ℕ, ◌+◌, ◌^◌, ◌≤◌, ◌<◌}
use native.Mathlib.Omega.{arith}
use lib.Dec.{eqb, ltb}
use lib.ListN.{length, length-append}
use borrow.Author.Tests.{lt-ltb, eq-eqb, ne_eqb}
use Rattle.bits.proofs.BoolLaws.{test-cases, both}
use Rattle.bits.proofs.ListLaws.{lowest-up-to}
use Rattle.bits.proofs.RangeLaws.{under}
use Rattle.refusal.specs.Report.{Report, done, refused}
use Rattle.text.specs.Text.{ascii, places, decimal, binary, line}
use Rattle.text.proofs.TextLaws.{places-le, length-decimal, length-binary, length-line}
use Rattle.card.specs.declared.Card.{Card}
use Rattle.card.specs.Card.{copy_count, copy_code, card_of}
use Rattle.card.specs.Entries.{is_version, read_card}
use Rattle.card.proofs.ModeLaws.{version-is, defined-card, defined-mode}
use Rattle.card.proofs.CopyLaws.{count-back}
use Rattle.card.proofs.GateLaws.{card-read, read-sound}
use Rattle.printed_card.specs.Text.{mode_lines, count_lines, card_lines, text_of, card_text, longest}
use Rattle.printed_card.specs.Short.{Short}

-- a number below a power of ten has no more digits than the power
few-digits : (n k : ℕ) → n < 10 ^ (k + 1) → length (decimal n) ≤ k + 1
unfolding places
few-digits n k h = omega (arith, length-decimal n, lowest-up-to 19 (λ j. ltb n (10 ^ (j + 1))) k (lt-ltb n (10 ^ (k + 1)) h))

pub digit-line : (name : List ℕ) (n : ℕ) → n < 10 → length (line name (decimal n)) ≤ length name + 3
digit-line name n h = omega (arith, length-line name (decimal n), few-digits n 0 h)

pub taps-line : (taps : ℕ) (digits : List ℕ) → digits ≡ binary 11 taps → length (line (ascii "taps") digits) ≡ 17
taps-line taps digits e = omega (arith, length-line (ascii "taps") digits, ap length e, length-binary 11 taps)

module _ (c : Card) (short : Short c) where
  -- the line of each field of the mode
  pub mode-fields : (length (line (ascii "version") (decimal c.version)) ≤ 10)
      × (length (line (ascii "band") (decimal c.band)) ≤ 7)
      × (length (line (ascii "kind") (decimal c.kind)) ≤ 7)
      × (length (line (ascii "rate") (decimal c.rate)) ≤ 7)
      × (length (line (ascii "modulation") (decimal c.modulation)) ≤ 13)
  mode-fields = (
    digit-line (ascii "version") c.version short.version-lt,
    digit-line (ascii "band") c.band short.band-lt,
    digit-line (ascii "kind") c.kind short.kind-lt,
    digit-line (ascii "rate") c.rate short.rate-lt,
    digit-line (ascii "modulation") c.modulation short.modulation-lt,
  )

  pub mode-short : length (mode_lines c) ≤ 44
  unfolding mode_lines
  mode-short = simp length-append (omega (arith, simp length-append at mode-fields))

  pub counts-short : length (count_lines c) ≤ 19
  unfolding count_lines
  counts-short =
      test-cases (eqb c.version 2)
      (λ is. simp (is, length-append) (omega (arith, few-digits c.blocks 0 short.blocks-lt, few-digits c.copies 1 short.copies-lt)))
      (λ is. simp is (omega arith))

  lines-short : length (card_lines c) ≤ longest
  unfolding card_lines
  lines-short = simp length-append (omega (arith, mode-short, counts-short, length-binary 11 c.taps, length-decimal c.serial, (places-le c.serial).1))

-- the counts behind a text, in version 2 and otherwise
pub with_counts : (c : Card) (t : List ℕ) {blocks both : List ℕ} → c.version ≡ 2 → blocks ≡ t ++ line (ascii "blocks") (decimal c.blocks)
    → both ≡ blocks ++ line (ascii "copies") (decimal c.copies) → both ≡ t ++ count_lines c
unfolding count_lines
with_counts c t v b e = simp (eq-eqb c.version 2 v) (e ∙ ap (λ (l : List ℕ). l ++ line (ascii "copies") (decimal c.copies)) b ∙ append_assoc t _ _)

pub without_counts : (c : Card) (t : List ℕ) {none : List ℕ} → (c.version ≡ 2 → ⊥) → none ≡ t → none ≡ t ++ count_lines c
unfolding count_lines
without_counts c t v e = simp (ne_eqb c.version 2 v) (e ∙ sym (append-nil t))

-- a card that is read is short
pub read_short : (bytes : List ℕ) (c : Card) → read_card bytes ≡ done c → Short c
read_short bytes c e =
    let d = card_of bytes in
    let sound = read-sound bytes c e in
    let (version, spare) = both (is_version d.version) (eqb d.spare 0) sound.versions in
    let (mode, blocks, copies) = defined-card d sound.mode in
    let (kinds, bands, modulations) = defined-mode d.band d.kind d.rate d.modulation mode in
    rw (card-read bytes c e)
    (record {
      version-lt = below (version-is d.version version);
      band-lt = omega (arith, bands);
      kind-lt = omega (arith, kinds.kind-lt);
      rate-lt = omega (arith, kinds.rate-lt);
      modulation-lt = omega (arith, modulations);
      blocks-lt = omega (arith, blocks);
      copies-lt = omega (arith, count-back d.copies copies, under 6 100 copy_count tt (copy_code d.copies) copies);
    })
  where
    below : {version : ℕ} → (version ≡ 1) ⊎ (version ≡ 2) → version < 10
    below (inl e) = omega arith
    below (inr e) = omega arith

-- no text is longer than the longest
pub text-short : (bytes : List ℕ) → length (card_text bytes) ≤ longest
unfolding card_text
text-short bytes = go (read_card bytes) (read_short bytes)
  where
    go : (r : Report Card) → ((c : Card) → r ≡ done c → Short c) → length (text_of r) ≤ longest
    go (done c) short = lines-short c (short c refl)
    go (refused n v w) short = omega (arith, length-line (ascii "refused") (decimal n), length-decimal n, (places-le n).1)
