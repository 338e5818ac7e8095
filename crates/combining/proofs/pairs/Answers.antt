-- `combining::pairs` meets its contract: each call gives the pair of its place. Assumes nothing.
use mathlib.Core.Path.{◌≡◌, ◌∙◌}
use mathlib.Core.List.{List}
use mathlib.Core.Logic.{◌⊎◌, inl, inr}
use Prim.Native.Nat.{ℕ, zero, suc, ◌+◌, ◌*◌, ◌≤◌, ◌<◌}
use native.Mathlib.Omega.{arith}
use lib.ListN.{get_or}
use denote.Param.Members.{Mut}
use borrow.Author.Rules.{rules}
use borrow.Author.Tests.{tests}
use Rattle.std.specs.Array.{IsFromFnResultFrom}
use Rattle.std.specs.Fn.{Called}
use Rattle.bits.proofs.NumberLaws.{lt-cases}
use Rattle.bits.proofs.ListLaws.{tabulate-of}
use Rattle.combining.proofs.pairs.Goals as goal

-- the elements of an array that is made element by element
made : {F : Type 0} (g : Mut F (ℕ × Unit {0}) ℕ) (h : ℕ → ℕ) (ys : List ℕ) (f : F) (m : ℕ)
    → ((i y : ℕ) (q : F) → i < m → Called g f (i, tt) y q → (q ≡ f) × (y ≡ h i))
    → (n i : ℕ) → i + n ≤ m → IsFromFnResultFrom g f ys i n → (k : ℕ) → i ≤ k → k < i + n → get_or ys k 0 ≡ h k
made g h ys f m step zero i room each k low high = absurd (omega arith)
made {F = F} g h ys f m step (suc n) i room (q, y, at, call, rest) k low high =
    go (lt-cases k (i + 1) (λ l. inl (omega arith)) (λ l. inr l)) (step i y q (omega arith) call) (made g h ys f m step n (i + 1) (omega arith)) rest
  where
    go : (k ≡ i) ⊎ (i + 1 ≤ k) → (q ≡ f) × (y ≡ h i)
        → (IsFromFnResultFrom g f ys (i + 1) n → (k : ℕ) → i + 1 ≤ k → k < i + 1 + n → get_or ys k 0 ≡ h k)
        → IsFromFnResultFrom g q ys (i + 1) n → get_or ys k 0 ≡ h k
    go (inl e) (_, v) later rest = rw e (at.1 0 ∙ v)
    go (inr l) (same, _) later rest = later (rw same at rest) k l (omega arith)

pub returns : goal.returns
returns c =
    let f = λ (p : ℕ). get_or c.args.counters.now (2 * p) 0 + 256 * get_or c.args.counters.now (2 * p + 1) 0 in
    tabulate-of 256 f 0 c.from_fn.result c.from_fn.ensures.items.long
    (λ i h. made _ f c.from_fn.result _ 256 (λ i y q l call. search (rules, tests)) 256 0 (omega arith) c.from_fn.ensures.items.each i (omega arith) h)
