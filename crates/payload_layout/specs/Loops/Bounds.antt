-- What holds of a payload's layout, for the loops that go by it. Assumes nothing.
use mathlib.Core.Path.{sym, ap, subst, ◌∙◌}
use mathlib.Core.Logic.{inl, inr}
use Rattle.std.proofs.Math.Nat.{ℕ_set}
use lib.Dec.{T, eqb}
use Rattle.std.specs.Prelude.{◌⊎◌, ◌≡◌, ℕ, zero, ◌+◌, ◌*◌, ◌<◌, ◌≤◌}
use Rattle.payload_layout.specs.declared.Layout.{Layout}
use Rattle.payload_layout.specs.Layouts.{items, used_carriers, copy_carriers, group_bits}

-- A sound layout: its groups fill the copies with the coded bits and the pad, and the used carriers are there.
pub record Sound (L : Layout) : Type 0 where
  pub bits_pos : zero < L.bits
  pub copies-pos : zero < L.copies
  pub run-pos : zero < L.run
  pub symbols-pos : zero < L.symbols
  pub interleavers-pos : zero < L.interleavers
  pub span_pos : zero < L.span
  pub there : used_carriers L ≤ L.carriers
  pub full : copy_carriers L * L.bits ≡ L.coded + L.pad
  pub pad-in : L.pad ≤ group_bits L
  -- one copy uses every carrier, in order
  pub one-copy : L.copies ≡ 1 → (L.interleavers ≡ 1) × (L.span ≡ L.carriers) × (L.step ≡ 0)

-- the bits a carrier of BPSK, QPSK or 16QAM
abbrev pub CarrierBits : ℕ → Type 0
CarrierBits b = (b ≡ 1) ⊎ (b ≡ 2) ⊎ (b ≡ 4)

-- ... which they are in one way
pub CarrierBits-prop : (b : ℕ) → IsProp (CarrierBits b)
CarrierBits-prop b (inl e) (inl f) = ap inl (ℕ_set b 1 e f)
CarrierBits-prop b (inl e) (inr (inl f)) = absurd (subst (λ (n : ℕ). T (eqb 1 n)) (sym e ∙ f) tt)
CarrierBits-prop b (inl e) (inr (inr f)) = absurd (subst (λ (n : ℕ). T (eqb 1 n)) (sym e ∙ f) tt)
CarrierBits-prop b (inr (inl e)) (inl f) = absurd (subst (λ (n : ℕ). T (eqb 2 n)) (sym e ∙ f) tt)
CarrierBits-prop b (inr (inl e)) (inr (inl f)) = ap inr (ap inl (ℕ_set b 2 e f))
CarrierBits-prop b (inr (inl e)) (inr (inr f)) = absurd (subst (λ (n : ℕ). T (eqb 2 n)) (sym e ∙ f) tt)
CarrierBits-prop b (inr (inr e)) (inl f) = absurd (subst (λ (n : ℕ). T (eqb 4 n)) (sym e ∙ f) tt)
CarrierBits-prop b (inr (inr e)) (inr (inl f)) = absurd (subst (λ (n : ℕ). T (eqb 4 n)) (sym e ∙ f) tt)
CarrierBits-prop b (inr (inr e)) (inr (inr f)) = ap inr (ap inr (ℕ_set b 4 e f))

-- A small one: what its numbers stay below. Of more than one copy a group has few bits, and the interleavers few carriers.
pub record Small (L : Layout) : Type 0 where
  pub bits_are : CarrierBits L.bits
  pub coded_in : L.coded < 65536
  pub items-in : items L < 1048576
  pub copies-in : L.copies ≤ 11
  pub step_in : L.step ≤ 2
  pub group-in : 1 < L.copies → group_bits L ≤ 816
  pub used-in : 1 < L.copies → used_carriers L ≤ 410

-- the layouts that the payload's loops take: the pads of all copies are within the coded data
pub record Laid (L : Layout) : Type 0 where
  pub sound : Sound L
  pub small : Small L
  pub within : L.copies * L.pad ≤ L.coded
