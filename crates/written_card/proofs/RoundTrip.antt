-- Writing after reading gives the bytes back, and reading after writing gives the fields back, in both versions. Assumes nothing.
use mathlib.Core.Path.{◌≡◌, refl, sym, ap, ap₂, ◌∙◌, subst}
use mathlib.Core.Bool.{Bool, true, false, not, ◌&&◌, ◌||◌}
use mathlib.Core.Logic.{⊎_elim}
use mathlib.Core.List.{List, [], ◌∷◌, ◌++◌}
use Prim.{Unit}
use Prim.Native.Nat.{ℕ, ◌+◌, ◌-◌, ◌*◌, ◌/◌, ◌%◌, ◌^◌, ◌≤◌, ◌<◌}
use native.Mathlib.Nat.{add-zero, add_assoc, zero-add, add-mul, mul_assoc}
use native.Mathlib.Omega.{arith}
use lib.Arith.{digits_lt}
use lib.Dec.{eqb, ltb}
use lib.ListN.{length, get_or, take, drop}
use lib.Pow.{pow_pos, pow-add, high, low}
use lib.Seq.{take_at}
use borrow.Author.Tests.{eqb-true, eq-eqb, lt-ltb, le-ltb, ltb-true, not-false}
use Rattle.bits.specs.Bits.{bit_at, bit_of, pack, field, bytes_of}
use Rattle.bits.proofs.BitLaws.{pack-ext, pack-shifted, bit-pack, bit-binary, bits-bytes, bytes_bits, same_bits, field-append, field_lt, field-none}
use Rattle.bits.proofs.BoolLaws.{both, test-cases}
use Rattle.refusal.specs.Report.{done}
use Rattle.refusal.specs.Outcome.{Outcome, row_order, in_order}
use Rattle.refusal.proofs.OutcomeLaws.{NoneApplies, done-same, reported-good, outcome-done, outcome-good}
use Rattle.card.specs.declared.Card.{Card}
use Rattle.card.specs.Modes.{single, defined}
use Rattle.card.specs.Card.{card_bytes, widths, copy_count, copy_code, fields_from, packed, card_from, numbers_of, card_of, padding_of, bytes_of_card}
use Rattle.card.specs.Entries.{versioned, padded, card_rows, read_card}
use Rattle.card.proofs.ModeLaws.{version-is, defined-card, single-is}
use Rattle.card.proofs.CopyLaws.{code-back, count-back, code_read}
use Rattle.card.proofs.GateLaws.{Sound, card-read, read-sound, card-taps}
use Rattle.written_card.specs.Entries.{put_into, write_rows, write_card}
use Rattle.written_card.specs.Loops.Fields.{Fitting}
use Rattle.written_card.proofs.WriteLaws.{writable-fits, length-card}
use Rattle.written_card.proofs.RowLaws.{said, not-unsaid, sound-says}

abbrev total : List ℕ → ℕ
total [] = 0
total (w ∷ ws) = w + total ws

-- a card's widths fill its bytes
whole-bytes : (version : ℕ) → total (widths (card_bytes version)) ≡ 8 * card_bytes version
whole-bytes version = test-cases (eqb version 2) (λ is. rw is refl) (λ other. rw other refl)

-- ---- writing after reading

-- the numbers from bit `at` on, packed behind the bits before them
packed-fields : (bytes ws : List ℕ) (at : ℕ) → packed ws (fields_from bytes at ws) (field bytes 0 at) ≡ field bytes 0 (at + total ws)
packed-fields bytes [] at = ap (field bytes 0) (sym (add-zero at))
packed-fields bytes (w ∷ ws) at =
    ap (λ (n : ℕ). packed ws (fields_from bytes (at + w) ws) n) (sym (field-append bytes 0 at w ∙ ap (λ (k : ℕ). field bytes 0 at * 2 ^ w + field bytes k w) (zero-add at)))
    ∙ packed-fields bytes ws (at + w) ∙ ap (field bytes 0) (add_assoc at w (total ws))

-- the bytes of the numbers in some bytes
bytes_packed : (bytes ws : List ℕ) → total ws ≡ 8 * length bytes → ((i : ℕ) → get_or bytes i 0 < 256)
    → bytes_of (length bytes) (λ i. bit_at (8 * length bytes - 1 - i) (packed ws (fields_from bytes 0 ws) 0)) ≡ bytes
unfolding field pack
bytes_packed bytes ws whole small =
    same_bits (length bytes) _ (bit_of bytes) (λ i h.
    ap (bit_at (8 * length bytes - 1 - i)) (packed-fields bytes ws 0 ∙ ap (λ (n : ℕ). field bytes 0 n) (zero-add (total ws) ∙ whole))
    ∙ bit-pack (8 * length bytes) (λ j. bit_of bytes (0 + j)) (λ j b. bit-binary bytes (0 + j)) i h ∙ ap (bit_of bytes) (zero-add i))
    ∙ bytes_bits bytes small

-- a card from some numbers has the same numbers, where the code has a count and the padding is 0
numbers-from : (version band kind rate modulation taps spare blocks code padding serial : ℕ) → copy_code (copy_count code) ≡ code → padding ≡ 0
    → numbers_of (card_from (version ∷ band ∷ kind ∷ rate ∷ modulation ∷ taps ∷ spare ∷ blocks ∷ code ∷ padding ∷ serial ∷ []))
    ≡ version ∷ band ∷ kind ∷ rate ∷ modulation ∷ taps ∷ spare ∷ blocks ∷ code ∷ padding ∷ serial ∷ []
numbers-from version band kind rate modulation taps spare blocks code padding serial coded none =
    let same : blocks + 1 - 1 ≡ blocks = omega arith in
    rw (same, coded, none) refl

-- a card that is read: of twelve bytes it is of version 2, and its padding is 0; its copies have a code
module _ (bytes : List ℕ) (sound : Sound bytes) where
  version_of : eqb (length bytes) 12 ≡ true → eqb (card_of bytes).version 2 ≡ true
  version_of is = test-cases (eqb (card_of bytes).version 2) (λ two. two) (λ other. absurd (twelve (rw other at sound.long) (eqb-true (length bytes) 12 is)))
    where
      twelve : length bytes ≡ 11 → length bytes ≡ 12 → ⊥
      twelve e f = omega arith

  padding-none : eqb (length bytes) 12 ≡ true → padding_of bytes ≡ 0
  padding-none is =
      let some : (eqb (length bytes) 12 && eqb (card_of bytes).version 2 && not (eqb (padding_of bytes) 0)) ≡ false = sound.clear in
      eqb-true (padding_of bytes) 0 (not-false _ (rw (is, version_of is) at some))

  coded : copy_code (card_of bytes).copies < 6
  coded = (defined-card (card_of bytes) sound.mode).2

  numbers-back : numbers_of (card_of bytes) ≡ fields_from bytes 0 (widths (length bytes))
  unfolding card_of padding_of
  numbers-back =
      test-cases (eqb (length bytes) 12)
      (λ is.
      rw is
      (numbers-from (field bytes 0 4) (field bytes 4 2) (field bytes 6 3) (field bytes 9 1) (field bytes 10 2) (field bytes 12 11) (field bytes 23 1) (field bytes 24 2) (field bytes 26 3) (field bytes 29 3) (field bytes 32 64)
      (code_read (field bytes 26 3) (field_lt bytes 26 3) (rw is at coded)) (rw is at (padding-none is))))
      (λ other.
      rw other
      (numbers-from (field bytes 0 4) (field bytes 4 2) (field bytes 6 3) (field bytes 9 1) (field bytes 10 2) (field bytes 12 11) (field bytes 23 1) (field bytes 24 0) (field bytes 24 0) (field bytes 24 0) (field bytes 24 64)
      (code-back (field bytes 24 0) (omega (arith, field-none bytes 24))) (field-none bytes 24)))

  -- the bytes of the card in some bytes
  pub bytes-of-card : ((i : ℕ) → get_or bytes i 0 < 256) → bytes_of_card (card_of bytes) ≡ bytes
  unfolding bytes_of_card
  bytes-of-card small =
      ap (λ (n : ℕ). bytes_of n (λ i. bit_at (8 * n - 1 - i) (packed (widths n) (numbers_of (card_of bytes)) 0))) (sym sound.long)
      ∙ ap (λ (vs : List ℕ). bytes_of (length bytes) (λ i. bit_at (8 * length bytes - 1 - i) (packed (widths (length bytes)) vs 0))) numbers-back
      ∙ bytes_packed bytes (widths (length bytes)) (rw sound.long (whole-bytes (card_of bytes).version)) small

-- ---- reading after writing

-- each number fits its width
abbrev Each : List ℕ → List ℕ → Type 0
Each [] [] = Unit {0}
Each [] (v ∷ vs) = ⊥
Each (w ∷ ws) [] = ⊥
Each (w ∷ ws) (v ∷ vs) = (v < 2 ^ w) × Each ws vs

-- a number with nothing before it
none_before : (w v : ℕ) → 0 * 2 ^ w + v ≡ v
none_before w v = omega arith

packed-split : (ws vs : List ℕ) (n : ℕ) → Each ws vs → packed ws vs n ≡ n * 2 ^ total ws + packed ws vs 0
packed-split [] [] n e = omega arith
packed-split [] (v ∷ vs) n e = absurd e
packed-split (w ∷ ws) [] n e = absurd e
packed-split (w ∷ ws) (v ∷ vs) n (h, e) =
    packed-split ws vs (n * 2 ^ w + v) e
    ∙ (rw (pow-add 2 w (total ws)) (omega (arith, packed-split ws vs (0 * 2 ^ w + v) e, add-mul (n * 2 ^ w) v (2 ^ total ws), mul_assoc n (2 ^ w) (2 ^ total ws), ap (λ (k : ℕ). k * 2 ^ total ws) (none_before w v))))

packed_lt : (ws vs : List ℕ) → Each ws vs → packed ws vs 0 < 2 ^ total ws
packed_lt [] [] e = omega arith
packed_lt [] (v ∷ vs) e = absurd e
packed_lt (w ∷ ws) [] e = absurd e
packed_lt (w ∷ ws) (v ∷ vs) (h, e) =
    rw (pow-add 2 w (total ws)) (omega (arith, packed-split ws vs (0 * 2 ^ w + v) e, ap (λ (k : ℕ). k * 2 ^ total ws) (none_before w v), digits_lt h (packed_lt ws vs e)))

-- the numbers in bytes whose bits are those of a number P of so many bits: those that were packed
module _ (bytes : List ℕ) (width P : ℕ) (is : (i : ℕ) → i < width → bit_of bytes i ≡ bit_at (width - 1 - i) P) where
  field_of : (at w rest : ℕ) → at + w + rest ≡ width → field bytes at w ≡ P / 2 ^ rest % 2 ^ w
  unfolding field
  field_of at w rest long = pack-ext w _ (λ j. bit_at (rest + (w - 1 - j)) P) same ∙ pack-shifted w rest P
    where
      same : (j : ℕ) → j < w → bit_of bytes (at + j) ≡ bit_at (rest + (w - 1 - j)) P
      same j h =
          let e : width - 1 - (at + j) ≡ rest + (w - 1 - j) = omega arith in
          is (at + j) (omega arith) ∙ ap (λ (k : ℕ). bit_at k P) e

  fields-packed : (ws vs : List ℕ) (at n : ℕ) → Each ws vs → at + total ws ≡ width → P ≡ packed ws vs n → fields_from bytes at ws ≡ vs
  fields-packed [] [] at n e long made = refl
  fields-packed [] (v ∷ vs) at n e long made = absurd e
  fields-packed (w ∷ ws) [] at n e long made = absurd e
  fields-packed (w ∷ ws) (v ∷ vs) at n (h, e) long made =
      ap₂ ◌∷◌
      (field_of at w (total ws) (omega arith)
      ∙ ap (λ (x : ℕ). x / 2 ^ total ws % 2 ^ w) (made ∙ packed-split ws vs (n * 2 ^ w + v) e)
      ∙ ap (λ (x : ℕ). x % 2 ^ w) (high (n * 2 ^ w + v) (total ws) (packed_lt ws vs e)) ∙ low n w h)
      (fields-packed ws vs (at + w) (n * 2 ^ w + v) e (omega arith) made)

-- a card's numbers fit, where those of version 2 have so many bits
each-by : (c : Card) → Fitting c → (a b p : ℕ) → c.blocks - 1 < 2 ^ a → copy_code c.copies < 2 ^ b → c.serial < 2 ^ 64
    → Each (4 ∷ 2 ∷ 3 ∷ 1 ∷ 2 ∷ 11 ∷ 1 ∷ a ∷ b ∷ p ∷ 64 ∷ []) (numbers_of c)
each-by c fits a b p blocks copies serial =
    (fits.version-lt, (fits.band, (fits.kind, (fits.rate, (fits.modulation, (fits.taps, (fits.spare, (blocks, (copies, (pow_pos p, (serial, tt)))))))))))

module _ (c : Card) (fits : Fitting c) (says : c.version ≡ 1 → single c ≡ true) (serial : c.serial < 2 ^ 64) where
  each : Each (widths (card_bytes c.version)) (numbers_of c)
  each =
      ⊎_elim
      (λ one.
      let (blocks, copies) = single-is c (says one) in
      subst (λ (ws : List ℕ). Each ws (numbers_of c)) (sym (ap (λ (v : ℕ). widths (card_bytes v)) one)) (each-by c fits 0 0 0 (omega arith) (omega (arith, ap copy_code copies, code-back 0 (omega arith))) serial))
      (λ two.
      subst (λ (ws : List ℕ). Each ws (numbers_of c)) (sym (ap (λ (v : ℕ). widths (card_bytes v)) two)) (each-by c fits 2 3 3 (omega (arith, fits.blocks_to)) (omega (arith, fits.copies)) serial))
      (version-is c.version fits.version)

  -- the numbers in the card's bytes are its numbers
  numbers-in : fields_from (bytes_of_card c) 0 (widths (length (bytes_of_card c))) ≡ numbers_of c
  unfolding bytes_of_card
  numbers-in =
      ap (λ (n : ℕ). fields_from (bytes_of_card c) 0 (widths n)) (length-card c)
      ∙ fields-packed (bytes_of_card c) (8 * card_bytes c.version) (packed (widths (card_bytes c.version)) (numbers_of c) 0)
      (bits-bytes (card_bytes c.version) (λ i. bit_at (8 * card_bytes c.version - 1 - i) (packed (widths (card_bytes c.version)) (numbers_of c) 0)) (λ i h. omega arith))
      (widths (card_bytes c.version)) (numbers_of c) 0 0 each (zero-add (total (widths (card_bytes c.version))) ∙ whole-bytes c.version) refl

  card-from : card_from (numbers_of c) ≡ c
  card-from = λ i.
      record {
        version = c.version;
        band = c.band;
        kind = c.kind;
        rate = c.rate;
        modulation = c.modulation;
        taps = c.taps;
        spare = c.spare;
        serial = c.serial;
        blocks = block-count c.blocks fits.blocks_from i;
        copies = count-back c.copies fits.copies i;
      }
    where
      block-count : (n : ℕ) → 1 ≤ n → n - 1 + 1 ≡ n
      block-count n h = omega arith

  pub card-of-bytes : card_of (bytes_of_card c) ≡ c
  unfolding card_of
  card-of-bytes = ap card_from numbers-in ∙ card-from

  padding-of-bytes : padded (bytes_of_card c) ≡ false
  unfolding padding_of
  padding-of-bytes =
      ap (λ (p : ℕ). eqb (length (bytes_of_card c)) 12 && eqb (card_of (bytes_of_card c)).version 2 && not (eqb p 0)) (ap (λ (vs : List ℕ). get_or vs 9 0) numbers-in)
      ∙ neither-way (eqb (length (bytes_of_card c)) 12 && eqb (card_of (bytes_of_card c)).version 2)
    where
      neither-way : (b : Bool) → (b && false) ≡ false
      neither-way true = refl
      neither-way false = refl

  -- the card's bytes are read as the card
  pub reads-back : versioned c ≡ true → defined c ≡ true → read_card (bytes_of_card c) ≡ done c
  unfolding read_card
  reads-back version mode = reported-good (card_rows (bytes_of_card c)) (card_of (bytes_of_card c)) none ∙ ap done card-of-bytes
    where
      long : not (eqb (length (bytes_of_card c)) 11 || eqb (length (bytes_of_card c)) 12) ≡ false
      long = rw (length-card c) (test-cases (eqb c.version 2) (λ is. rw is refl) (λ other. rw other refl))

      none : NoneApplies (in_order row_order (card_rows (bytes_of_card c)))
      none =
          (long, (rw (padding-of-bytes, card-of-bytes, version) refl, (rw card-of-bytes (ap not (eq-eqb (length (bytes_of_card c)) (card_bytes c.version) (length-card c))), (rw (card-of-bytes, mode) refl, tt))))

-- a card that was read, put into some memory: the bytes that it was read from
pub put_back : (bytes : List ℕ) → ((i : ℕ) → get_or bytes i 0 < 256) → Sound bytes → (out : List ℕ)
    → ◌≡◌ {A = Outcome ℕ (List ℕ)} (record { report = done (card_bytes (card_of bytes).version); out = put_into (card_of bytes) out })
    (record { report = done (length bytes); out = bytes ++ drop (length bytes) out })
put_back bytes small sound out =
    ap₂ (λ (n : ℕ) (put : List ℕ). record { report = done n; out = put ++ drop n out }) (sym sound.long) (bytes-of-card bytes sound small)

-- ---- the two theorems over the entries' definitions

-- Every card that is read is written back as the bytes that it was read from.
pub write-after-read : (bytes : List ℕ) → ((i : ℕ) → get_or bytes i 0 < 256) → (c : Card) → read_card bytes ≡ done c → (out : List ℕ) → length bytes ≤ length out
    → write_card c out ≡ record { report = done (length bytes); out = bytes ++ drop (length bytes) out }
unfolding write_card
write-after-read bytes small c read out room =
    let sound = read-sound bytes c read in
    let d = card_of bytes in
    let fits : not (defined d && ltb d.taps (2 ^ 11)) ≡ false = rw (sound.mode, lt-ltb d.taps (2 ^ 11) (card-taps bytes)) refl in
    let space : ltb (length out) (card_bytes d.version) ≡ false = le-ltb (length out) (card_bytes d.version) (omega (arith, sound.long)) in
    ap (λ (e : Card). write_card e out) (card-read bytes c read)
    ∙ outcome-good {A = ℕ} (write_rows d out) out (card_bytes d.version) (put_into d out) (ap not sound.versions, (fits, (space, (not-unsaid d (sound-says bytes sound), tt))))
    ∙ put_back bytes small sound out

-- Every set of fields that is written is read back from the bytes that were written.
pub read-after-write : (c : Card) → c.serial < 2 ^ 64 → (out : List ℕ) (n : ℕ) → (write_card c out).report ≡ done n → read_card (take n (write_card c out).out) ≡ done c
unfolding write_card
read-after-write c serial out n wrote =
    let (version, (mode, (room, (unsaid, none)))) = outcome-done {A = ℕ} (write_rows c out) out (card_bytes c.version) n (put_into c out) wrote in
    let good = outcome-good {A = ℕ} (write_rows c out) out (card_bytes c.version) (put_into c out) (version, (mode, (room, (unsaid, none)))) in
    let long : n ≡ card_bytes c.version = done-same (sym wrote ∙ ap (λ o. o.report) good) in
    let versions = not-false (versioned c) version in
    let (is, taps) = both (defined c) (ltb c.taps (2 ^ 11)) (not-false _ mode) in
    let fits = writable-fits c versions is (ltb-true c.taps (2 ^ 11) taps) in
    ap read_card (ap (λ o. take n o.out) good ∙ take_at (bytes_of_card c) (drop (card_bytes c.version) out) n (length-card c ∙ sym long))
    ∙ reads-back c fits (said c unsaid) serial versions is
