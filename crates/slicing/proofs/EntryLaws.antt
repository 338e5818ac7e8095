-- The outcomes of `slice_into` by the tests that lead to them. Assumes nothing.
use mathlib.Core.List.{List, ◌++◌}
use mathlib.Core.Path.{◌≡◌, refl}
use Prim.Native.Nat.{ℕ, zero, suc, ◌≤◌, ◌<◌}
use native.Mathlib.Omega.{arith}
use borrow.Author.Tests.{lt-ltb, le-ltb}
use lib.ListN.{length, drop}
use Rattle.refusal.specs.declared.Refusal.TheVariants.{Mode, Room}
use Rattle.card.specs.Modes.{carrier_bits}
use Rattle.constellation.proofs.EntryLaws.{kept, made}
use Rattle.slicing.specs.declared.Received.{Received}
use Rattle.slicing.specs.declared.Received.TheVariants.{Heard, Lost}
use Rattle.slicing.specs.Slicing.{items_of}
use Rattle.slicing.specs.Entries.{slice_outcome}

-- a carrier has as many items as its modulation has bits
length-items : (m : ℕ) (r : Received) → m ≤ 2 → length (items_of m r) ≡ carrier_bits m
length-items zero Lost h = refl
length-items zero (Heard i q) h = refl
length-items (suc zero) Lost h = refl
length-items (suc zero) (Heard i q) h = refl
length-items (suc (suc zero)) Lost h = refl
length-items (suc (suc zero)) (Heard i q) h = refl
length-items (suc (suc (suc m))) r h = absurd (omega arith)

pub items-fit : (m : ℕ) (r : Received) → m ≤ 2 → {n k : ℕ} → n ≡ carrier_bits m → n ≤ k → (items : List ℕ) → items ≡ items_of m r → length items ≤ k
items-fit m r d e h items g = rw (g, length-items m r d) (rw e at h)

module _ (m : ℕ) (r : Received) (out : List ℕ) where
  pub slice-mode : 2 < m → slice_outcome m r out ≡ kept Mode out
  unfolding slice_outcome
  slice-mode h = simp (lt-ltb 2 m h)

  pub slice-room : m ≤ 2 → {n : ℕ} → n ≡ carrier_bits m → length out < n → slice_outcome m r out ≡ kept (Room n) out
  unfolding slice_outcome
  slice-room d e h = rw e (simp (le-ltb 2 m d, lt-ltb (length out) (carrier_bits m) (rw e at h)))

  pub slice-done : m ≤ 2 → {n : ℕ} → n ≡ carrier_bits m → n ≤ length out → (items : List ℕ) → items ≡ items_of m r
      → slice_outcome m r out ≡ made n (items ++ drop (length items) out)
  unfolding slice_outcome
  slice-done d e h items g =
      rw (e, g, length-items m r d)
      (simp (le-ltb 2 m d, le-ltb (length out) (carrier_bits m) (rw e at h)))
