-- Laws of the bytes of a card, and of the fields that fit them. Assumes nothing.
use mathlib.Core.Path.{◌≡◌, refl, sym, ap, ◌∙◌}
use mathlib.Core.Bool.{true}
use mathlib.Core.Logic.{⊎_elim}
use mathlib.Core.List.{List}
use Prim.Native.Nat.{ℕ, ◌+◌, ◌-◌, ◌*◌, ◌/◌, ◌%◌, ◌^◌, ◌<◌}
use native.Mathlib.Nat.{add-mul-div_right, add-mul-mod_self_right, add_comm, mul_assoc}
use native.Mathlib.Omega.{arith}
use lib.Dec.{eqb}
use lib.ListN.{length}
use lib.Pow.{pow_pos, pow-add, shr-shr, high}
use borrow.Author.Tests.{eqb-true}
use Rattle.bits.specs.Bits.{bit_at, byte_of, bytes_of}
use Rattle.bits.specs.Lists.{written}
use Rattle.bits.proofs.BoolLaws.{both}
use Rattle.bits.proofs.BitLaws.{pack-ext, pack-shifted, length-bytes}
use Rattle.card.specs.declared.Card.{Card}
use Rattle.card.specs.Modes.{single, defined}
use Rattle.card.specs.Card.{card_bytes, widths, copy_code, packed, numbers_of, bytes_of_card}
use Rattle.card.specs.Entries.{is_version, versioned}
use Rattle.card.proofs.ModeLaws.{defined-mode, defined-card, single-is, version-is}
use Rattle.card.proofs.CopyLaws.{code-back}
use Rattle.written_card.specs.Entries.{put_into, in_version}
use Rattle.written_card.specs.Loops.Fields.{Fitting, head_of, card_byte}

-- ---- bytes

-- byte k of a number of so many bytes
byte_at : (bytes n k : ℕ) → k < bytes → byte_of (λ i. bit_at (8 * bytes - 1 - i) n) k ≡ n / 2 ^ (8 * (bytes - 1 - k)) % 256
unfolding byte_of
byte_at bytes n k h = pack-ext 8 _ (λ j. bit_at (8 * (bytes - 1 - k) + (8 - 1 - j)) n) same ∙ pack-shifted 8 (8 * (bytes - 1 - k)) n
  where
    same : (j : ℕ) → j < 8 → bit_at (8 * bytes - 1 - (8 * k + j)) n ≡ bit_at (8 * (bytes - 1 - k) + (8 - 1 - j)) n
    same j l = let e : 8 * bytes - 1 - (8 * k + j) ≡ 8 * (bytes - 1 - k) + (8 - 1 - j) = omega arith in rw e

-- a byte of the serial, s, which stands behind the head, h
low_byte : (h s k : ℕ) → k < 8 → (h * 2 ^ 64 + s) / 2 ^ (56 - 8 * k) % 256 ≡ s / 2 ^ (56 - 8 * k) % 256
low_byte h s k l =
    ap (λ (x : ℕ). x / 2 ^ (56 - 8 * k) % 256) whole
    ∙ ap (λ (x : ℕ). x % 256) (add-mul-div_right s (h * 2 ^ (8 * k) * 256) (pow_pos (56 - 8 * k)))
    ∙ add-mul-mod_self_right (s / 2 ^ (56 - 8 * k)) (h * 2 ^ (8 * k)) 256
  where
    power : 2 ^ 64 ≡ 2 ^ (8 * k) * 256 * 2 ^ (56 - 8 * k)
    power =
        let z : 64 ≡ 8 * k + 8 + (56 - 8 * k) = omega arith in
        ap (λ (x : ℕ). 2 ^ x) z ∙ pow-add 2 (8 * k + 8) (56 - 8 * k) ∙ ap (λ (x : ℕ). x * 2 ^ (56 - 8 * k)) (pow-add 2 (8 * k) 8)

    whole : h * 2 ^ 64 + s ≡ s + h * 2 ^ (8 * k) * 256 * 2 ^ (56 - 8 * k)
    whole =
        add_comm (h * 2 ^ 64) s
        ∙ ap (λ (x : ℕ). s + x) (ap (λ (x : ℕ). h * x) power ∙ sym (mul_assoc h (2 ^ (8 * k) * 256) (2 ^ (56 - 8 * k))) ∙ ap (λ (x : ℕ). x * 2 ^ (56 - 8 * k)) (sym (mul_assoc h (2 ^ (8 * k)) 256)))

-- a byte of the head, and one of the serial
pub head_byte : (bytes head serial i : ℕ) → serial < 2 ^ 64 → i < bytes → head / 2 ^ (8 * (bytes - 1 - i)) % 256 ≡ card_byte bytes head serial i
unfolding card_byte
head_byte bytes head serial i small l =
    let e : 8 * (bytes + 8 - 1 - i) ≡ 64 + 8 * (bytes - 1 - i) = omega arith in
    sym
    (byte_at (bytes + 8) (head * 2 ^ 64 + serial) i (omega arith)
    ∙ ap (λ (x : ℕ). (head * 2 ^ 64 + serial) / 2 ^ x % 256) e
    ∙ ap (λ (x : ℕ). x % 256) (sym (shr-shr (head * 2 ^ 64 + serial) 64 (8 * (bytes - 1 - i))))
    ∙ ap (λ (x : ℕ). x / 2 ^ (8 * (bytes - 1 - i)) % 256) (high head 64 small))

pub serial-byte : (bytes head serial i : ℕ) → i < 8 → serial / 2 ^ (8 * (8 - 1 - i)) % 256 ≡ card_byte bytes head serial (bytes + i)
unfolding card_byte
serial-byte bytes head serial i l =
    let e : 8 * (bytes + 8 - 1 - (bytes + i)) ≡ 56 - 8 * i = omega arith in
    let f : 8 * (8 - 1 - i) ≡ 56 - 8 * i = omega arith in
    ap (λ (x : ℕ). serial / 2 ^ x % 256) f
    ∙ sym
    (byte_at (bytes + 8) (head * 2 ^ 64 + serial) (bytes + i) (omega arith)
    ∙ ap (λ (x : ℕ). (head * 2 ^ 64 + serial) / 2 ^ x % 256) e ∙ low_byte head serial i l)

pub length-card : (c : Card) → length (bytes_of_card c) ≡ card_bytes c.version
unfolding bytes_of_card
length-card c = length-bytes (card_bytes c.version) _

-- ---- a card in some memory

module _ (c : Card) (out now : List ℕ) where
  abbrev number : ℕ → ℕ
  number bytes = packed (widths bytes) (numbers_of c) 0

  -- the bytes of a head and a serial that make the card's number
  stored : (bytes head : ℕ) → card_bytes c.version ≡ bytes + 8 → number (bytes + 8) ≡ head * 2 ^ 64 + c.serial
      → now ≡ written (bytes + 8) (card_byte bytes head c.serial) out → now ≡ put_into c out
  unfolding bytes_of_card bytes_of written card_byte
  stored bytes head long same e = e ∙ (rw (long, same) refl)

  pub stored-2 : c.version ≡ 2 → now ≡ written 12 (card_byte 4 (head_of c) c.serial) out → now ≡ put_into c out
  stored-2 is e = stored 4 (head_of c) (rw is refl) refl e

  pub stored-1 : c.version ≡ 1 → single c ≡ true → now ≡ written 11 (card_byte 3 (head_of c / 256) c.serial) out → now ≡ put_into c out
  stored-1 is one e =
      let (blocks, copies) = single-is c one in
      let code : copy_code c.copies ≡ 0 = ap copy_code copies ∙ code-back 0 (omega arith) in
      let same : number 11 ≡ head_of c / 256 * 2 ^ 64 + c.serial = ap (λ (x : ℕ). x * 2 ^ 64 + c.serial) (omega arith) in
      stored 3 (head_of c / 256) (rw is refl) same e

-- ---- fields

version-small : (version : ℕ) → is_version version ≡ true → version < 16
version-small version is = ⊎_elim (λ one. omega arith) (λ two. omega arith) (version-is version is)

-- a version that is not 2
pub version-1 : (version : ℕ) → is_version version ≡ true → (version ≡ 2 → ⊥) → version ≡ 1
version-1 version is other = ⊎_elim (λ one. one) (λ two. absurd (other two)) (version-is version is)

-- fields that pass the tests of writing fit
pub writable-fits : (c : Card) → versioned c ≡ true → defined c ≡ true → c.taps < 2 ^ 11 → Fitting c
writable-fits c v w taps =
    let (version, spare) = both (is_version c.version) (eqb c.spare 0) v in
    let (mode, blocks, copies) = defined-card c w in
    let (kinds, bands, modulations) = defined-mode c.band c.kind c.rate c.modulation mode in
    let none = eqb-true c.spare 0 spare in
    record {
      version = version;
      version-lt = version-small c.version version;
      band = omega arith;
      kind = omega (arith, kinds.kind-lt);
      rate = kinds.rate-lt;
      modulation = omega arith;
      taps = taps;
      spare = omega arith;
      blocks_from = omega arith;
      blocks_to = omega arith;
      copies = copies;
    }

-- they fit in another version too
pub fits_in : (version : ℕ) (c : Card) → is_version version ≡ true → Fitting c → Fitting (in_version version c)
fits_in version c is fits =
    record {
      version = is;
      version-lt = version-small version is;
      band = fits.band;
      kind = fits.kind;
      rate = fits.rate;
      modulation = fits.modulation;
      taps = fits.taps;
      spare = fits.spare;
      blocks_from = fits.blocks_from;
      blocks_to = fits.blocks_to;
      copies = fits.copies;
    }
