-- Laws of the order of causes: every cause has its place, 9 has none, 10 stands behind 2 and before 3, and 11 is the last of all.
-- Assumes nothing.
use mathlib.Core.Bool.{cond}
use mathlib.Core.List.{List, [], ◌∷◌}
use mathlib.Core.Path.{◌≡◌, refl, ap}
use Prim.Native.Nat.{ℕ, suc, ◌<◌}
use native.Mathlib.Omega.{arith}
use lib.Dec.{eqb}
use lib.ListN.{length}
use Rattle.refusal.specs.declared.Refusal.{Refusal}
use Rattle.refusal.specs.declared.Refusal.TheVariants.{CardLength, Version, VersionLength, Mode, Length, Room, Item, Majority, Parity, Counts}
use Rattle.refusal.specs.Report.{refusal, number}
use Rattle.refusal.specs.Outcome.{row_order}

-- where a number stands in an order, from 0; the order's length where it does not
abbrev pub rank : ℕ → List ℕ → ℕ
rank n [] = 0
rank n (m ∷ ms) = cond (eqb n m) 0 (suc (rank n ms))

abbrev checked : Refusal → ℕ
checked r = rank (number (refusal {A = ℕ} r)) row_order

-- every cause stands in the order
pub each-checked : (r : Refusal) → checked r < length row_order
each-checked (CardLength n) = omega arith
each-checked Version = omega arith
each-checked VersionLength = omega arith
each-checked Mode = omega arith
each-checked (Length n) = omega arith
each-checked (Room n) = omega arith
each-checked (Item n) = omega arith
each-checked (Majority n) = omega arith
each-checked (Parity n) = omega arith
each-checked Counts = omega arith

-- 9 is withdrawn: the order does not hold it
pub nine-not-checked : rank 9 row_order ≡ length row_order
nine-not-checked = refl

-- and so no case of a refusal has it
pub nine-withdrawn : (r : Refusal) → number (refusal {A = ℕ} r) ≡ 9 → ⊥
nine-withdrawn r e = let same : checked r ≡ rank 9 row_order = ap (λ n. rank n row_order) e in omega (arith, same, each-checked r, nine-not-checked)

-- 10 stands behind 2 and before 3
pub length-between : (rank 2 row_order < rank 10 row_order) × (rank 10 row_order < rank 3 row_order)
length-between = (omega arith, omega arith)

-- 11 stands last
pub counts-last : suc (rank 11 row_order) ≡ length row_order
counts-last = refl
