-- The outcomes of `map_into` by the tests that lead to them, and an outcome's two parts. Assumes nothing.
use mathlib.Core.List.{List}
use mathlib.Core.Path.{◌≡◌, sym, ap, ◌∙◌}
use Prim.Native.Nat.{ℕ, ◌≤◌, ◌<◌}
use borrow.Author.Tests.{lt-ltb, le-ltb, eq-eqb, ne_eqb}
use lib.Ieee.{Float}
use lib.ListN.{length, get_or, set}
use Rattle.bits.specs.Lists.{first_above}
use Rattle.bits.proofs.ListLaws.{set-two}
use Rattle.refusal.specs.declared.Refusal.{Refusal}
use Rattle.refusal.specs.declared.Refusal.TheVariants.{Mode, Length, Room, Item}
use Rattle.refusal.specs.Report.{done, refusal}
use Rattle.refusal.specs.Outcome.{Outcome}
use Rattle.card.specs.Modes.{carrier_bits}
use Rattle.constellation.specs.declared.Point.{Point}
use Rattle.constellation.specs.Mapping.{point_of}
use Rattle.constellation.specs.Entries.{with_point, map_outcome}

-- a refusal that keeps the lent memory, and a success
abbrev pub kept : {B : Type 0} → Refusal → B → Outcome ℕ B
kept r out = record { report = refusal r; out = out }

abbrev pub made : {B : Type 0} → ℕ → B → Outcome ℕ B
made n out = record { report = done n; out = out }

-- an outcome's two parts, as a contract asks them
pub both : {B : Type 0} {o p : Outcome ℕ B} → o ≡ p → (p.report ≡ o.report) × (p.out ≡ o.out)
both {B} e = (ap (λ (o : Outcome ℕ B). o.report) (sym e), ap (λ (o : Outcome ℕ B). o.out) (sym e))

-- ---- map_into

module _ (m : ℕ) (bits : List ℕ) (out : List Float) where
  pub map-mode : 2 < m → map_outcome m bits out ≡ kept Mode out
  unfolding map_outcome
  map-mode h = simp (lt-ltb 2 m h)

  pub map-length : m ≤ 2 → (length bits ≡ carrier_bits m → ⊥) → map_outcome m bits out ≡ kept (Length (length bits)) out
  unfolding map_outcome
  map-length d h = simp (le-ltb 2 m d, ne_eqb (length bits) (carrier_bits m) h)

  module _ (defined : m ≤ 2) (exact : length bits ≡ carrier_bits m) where
    pub map-room : length out < 2 → map_outcome m bits out ≡ kept (Room 2) out
    unfolding map_outcome
    map-room h = simp (le-ltb 2 m defined, eq-eqb (length bits) (carrier_bits m) exact, lt-ltb (length out) 2 h)

    pub map-item : 2 ≤ length out → {k : ℕ} → k ≡ first_above 1 bits → k < length bits → map_outcome m bits out ≡ kept (Item k) out
    unfolding map_outcome
    map-item r e h =
        rw e
        (simp (
          le-ltb 2 m defined,
          eq-eqb (length bits) (carrier_bits m) exact,
          le-ltb (length out) 2 r,
          lt-ltb (first_above 1 bits) (length bits) (rw e at h),
        ))

    pub map-done : 2 ≤ length out → length bits ≤ first_above 1 bits → {p : Point} → p ≡ point_of m (λ k. get_or bits k 0)
        → map_outcome m bits out ≡ made 2 (set (set out 0 p.i) 1 p.q)
    unfolding map_outcome
    map-done r h {p} e =
        simp (
          le-ltb 2 m defined,
          eq-eqb (length bits) (carrier_bits m) exact,
          le-ltb (length out) 2 r,
          le-ltb (first_above 1 bits) (length bits) h,
        )
        (ap (λ (q : Point). made 2 (with_point q out)) (sym e) ∙ ap (made 2) (sym (set-two p.i p.q out r)))
