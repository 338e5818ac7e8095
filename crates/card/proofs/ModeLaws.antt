-- Laws of the defined modes: what the tests of a card say of its fields. Assumes nothing.
use mathlib.Core.Path.{◌≡◌, refl, ap}
use mathlib.Core.Bool.{Bool, true, false, not, ◌&&◌, ◌||◌, false≢true}
use mathlib.Core.Logic.{◌⊎◌, inl, inr}
use Prim.Native.Nat.{ℕ, ◌<◌}
use native.Mathlib.Omega.{arith}
use lib.Dec.{eqb, leb, ltb}
use borrow.Author.Tests.{eqb-true, eq-eqb, leb-true, ltb-true}
use Rattle.bits.proofs.BoolLaws.{both, test-cases}
use Rattle.card.specs.declared.Card.{Card}
use Rattle.card.specs.Card.{copy_code}
use Rattle.card.specs.Modes.{defined_mode, single, defined_counts, defined, Defined}
use Rattle.card.specs.Entries.{is_version}
use Rattle.card.proofs.CopyLaws.{code-back}

-- the defined kinds and rates
pub defined-half : (kind : ℕ) → kind < 5 → Defined kind 0
defined-half kind h = record { kind-lt = h; rate-lt = omega arith; high-rate = λ e. absurd (omega arith) }

pub defined-high : Defined 4 1
defined-high = record { kind-lt = omega arith; rate-lt = omega arith; high-rate = λ e. refl }

-- versions 1 and 2
pub version-is : (version : ℕ) → is_version version ≡ true → (version ≡ 1) ⊎ (version ≡ 2)
version-is version e = go (eqb version 1) refl e
  where
    go : (b : Bool) → eqb version 1 ≡ b → (b || eqb version 2) ≡ true → (version ≡ 1) ⊎ (version ≡ 2)
    go true is e = inl (eqb-true version 1 is)
    go false is e = inr (eqb-true version 2 e)

module _ (band kind rate modulation : ℕ) where
  rates : (b : Bool) → eqb rate 0 ≡ b → (b || eqb rate 1 && eqb kind 4) ≡ true → (rate < 2) × (rate ≡ 1 → kind ≡ 4)
  rates true e u = let z = eqb-true rate 0 e in (omega arith, λ one. absurd (omega arith))
  rates false e u = let (one, four) = both (eqb rate 1) (eqb kind 4) u in (omega (arith, eqb-true rate 1 one), λ o. eqb-true kind 4 four)

  pub defined-mode : defined_mode band kind rate modulation ≡ true → Defined kind rate × (band < 4) × (modulation < 3)
  unfolding defined_mode
  defined-mode e =
      let b = leb band 3 in
      let k = leb kind 4 in
      let m = leb modulation 2 in
      let r = eqb rate 0 || eqb rate 1 && eqb kind 4 in
      let (four, last) = both (b && k && m && r) (not (eqb kind 0) || eqb modulation 1) e in
      let (three, rated) = both (b && k && m) r four in
      let (two, modulations) = both (b && k) m three in
      let (bands, kinds) = both b k two in
      let (low, high) = rates (eqb rate 0) refl rated in (
        record { kind-lt = omega (arith, leb-true kind 4 kinds); rate-lt = low; high-rate = high },
        omega (arith, leb-true band 3 bands),
        omega (arith, leb-true modulation 2 modulations),
      )

-- one block and one copy
pub single-is : (c : Card) → single c ≡ true → (c.blocks ≡ 1) × (c.copies ≡ 1)
single-is c e = let (blocks, copies) = both (eqb c.blocks 1) (eqb c.copies 1) e in (eqb-true c.blocks 1 blocks, eqb-true c.copies 1 copies)

module _ (c : Card) (e : defined c ≡ true) where
  parts : (defined_mode c.band c.kind c.rate c.modulation ≡ true) × (defined_counts c.kind c.blocks c.copies ≡ true)
  parts = both (defined_mode c.band c.kind c.rate c.modulation) (defined_counts c.kind c.blocks c.copies) e

  -- a card that is defined has a defined mode, so far one block, and copies that have a code
  pub defined-card : (defined_mode c.band c.kind c.rate c.modulation ≡ true) × (c.blocks ≡ 1) × (copy_code c.copies < 6)
  defined-card = let (blocks, copies) = test-cases (single c) one more in (parts.0, blocks, copies)
    where
      one : single c ≡ true → (c.blocks ≡ 1) × (copy_code c.copies < 6)
      one is = let (blocks, copies) = single-is c is in (blocks, omega (arith, ap copy_code copies, code-back 0 (omega arith)))

      more : single c ≡ false → (c.blocks ≡ 1) × (copy_code c.copies < 6)
      more is =
          let counts = (both (not (eqb c.kind 0)) (ltb (copy_code c.copies) 6 && eqb c.blocks 1) (rw is at parts.1)).1 in
          let (copies, blocks) = both (ltb (copy_code c.copies) 6) (eqb c.blocks 1) counts in
          (eqb-true c.blocks 1 blocks, ltb-true (copy_code c.copies) 6 copies)

  -- of kind 0 it has one block and one copy
  pub kind-0-single : c.kind ≡ 0 → single c ≡ true
  kind-0-single is = test-cases (single c) (λ one. one) (λ more. absurd (false≢true (rw (more, eq-eqb c.kind 0 is) at parts.1)))
