-- What reading a card comes to behind the rows of its length, its version and its padding. Assumes nothing.
use mathlib.Core.Path.{◌≡◌, refl}
use mathlib.Core.Bool.{true, false, cond, not, ◌||◌}
use mathlib.Core.List.{List}
use Prim.Native.Nat.{ℕ}
use lib.Dec.{eqb}
use lib.ListN.{length}
use Rattle.refusal.specs.declared.Refusal.TheVariants.{VersionLength, Mode}
use Rattle.refusal.specs.Report.{done, refusal}
use Rattle.card.specs.Card.{card_bytes, card_of}
use Rattle.card.specs.Modes.{defined}
use Rattle.card.specs.Entries.{versioned, padded, read_card}

-- rows 1 and 2 do not apply
pub record Versioned (bytes : List ℕ) : Type 0 where
  pub either : (eqb (length bytes) 11 || eqb (length bytes) 12) ≡ true
  pub versions : versioned (card_of bytes) ≡ true
  pub clear : padded bytes ≡ false

-- rows 10 and 3 are left
pub read-versioned : (bytes : List ℕ) → Versioned bytes
    → read_card bytes
    ≡ cond (not (eqb (length bytes) (card_bytes (card_of bytes).version))) (refusal VersionLength) (cond (not (defined (card_of bytes))) (refusal Mode) (done (card_of bytes)))
unfolding read_card
read-versioned bytes v = rw (v.either, v.versions, v.clear) refl
