-- `printed_card::tap_digits` meets its contract. Assumes nothing.
use mathlib.Core.Path.{◌≡◌, ◌∙◌}
use mathlib.Core.List.{List}
use mathlib.Core.Logic.{◌⊎◌, inl, inr}
use Prim.Native.Nat.{ℕ, zero, suc, ◌+◌, ◌-◌, ◌≤◌, ◌<◌}
use native.Mathlib.Omega.{arith}
use lib.ListN.{get_or}
use denote.Param.Members.{Mut}
use borrow.Author.Rules.{rules}
use borrow.Author.Tests.{tests}
use Rattle.std.specs.Array.{IsFromFnResultFrom}
use Rattle.std.specs.Fn.{Called}
use Rattle.bits.specs.Bits.{bit_at}
use Rattle.bits.proofs.NumberLaws.{lt-cases}
use Rattle.bits.proofs.ListLaws.{tabulate-of}
use Rattle.text.specs.Text.{binary}
use Rattle.printed_card.proofs.tap_digits.Goals as goal

-- the elements of an array that is made element by element
made : {F : Type 0} (g : Mut F (ℕ × Unit {0}) ℕ) (h : ℕ → ℕ) (ys : List ℕ) (f : F)
    → ((i y : ℕ) (q : F) → Called g f (i, tt) y q → (q ≡ f) × (y ≡ h i))
    → (n i : ℕ) → IsFromFnResultFrom g f ys i n → (k : ℕ) → i ≤ k → k < i + n → get_or ys k 0 ≡ h k
made g h ys f step zero i each k low high = absurd (omega arith)
made {F = F} g h ys f step (suc n) i (q, y, at, call, rest) k low high =
    go (lt-cases k (i + 1) (λ l. inl (omega arith)) (λ l. inr l)) (step i y q call) (made g h ys f step n (i + 1)) rest
  where
    go : (k ≡ i) ⊎ (i + 1 ≤ k) → (q ≡ f) × (y ≡ h i)
        → (IsFromFnResultFrom g f ys (i + 1) n → (k : ℕ) → i + 1 ≤ k → k < i + 1 + n → get_or ys k 0 ≡ h k)
        → IsFromFnResultFrom g q ys (i + 1) n → get_or ys k 0 ≡ h k
    go (inl e) (_, v) later rest = rw e (at.1 0 ∙ v)
    go (inr l) (same, _) later rest = later (rw same at rest) k l (omega arith)

pub returns : goal.returns
unfolding binary
returns c =
    tabulate-of 11 (λ i. 48 + bit_at (10 - i) c.args.taps) 0 c.from_fn.result c.from_fn.ensures.items.long
    (λ i h. made _ (λ i. 48 + bit_at (10 - i) c.args.taps) c.from_fn.result _ (λ i y q call. search (rules, tests)) 11 0 c.from_fn.ensures.items.each i (omega arith) h)
