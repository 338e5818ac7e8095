-- `bits::first_above` meets its contract: where the largest element is within the limit, there is nothing to find. Assumes nothing.
use mathlib.Core.List.{List}
use mathlib.Core.Path.{◌≡◌, sym}
use Prim.Native.Nat.{ℕ, ◌<◌, ◌≤◌}
use native.Mathlib.Omega.{arith}
use lib.ListN.{length}
use borrow.Author.Rules.{rules}
use borrow.Author.Tests.{tests}
use Rattle.std.specs.List.{AllWithin, HoldsAt}
use Rattle.std.specs.Option.{unwrap_or}
use Rattle.std.specs.Prelude.{Option, None, Some, MatchOption}
use Rattle.std.proofs.lemmas.Iterator.{IsFirst-from_position, YieldsList-from_slice, index_from_first}
use Rattle.bits.specs.Lists.{first_above}
use Rattle.bits.proofs.ListLaws.{first-none, first-of_none, first-hit, first-miss}
use Rattle.bits.proofs.first_above.Goals as goal

-- what a search for an element above the limit finds
module _ (limit : ℕ) (xs : List ℕ) where
  abbrev Found : Option ℕ → Type 0
  Found r =
      MatchOption r (AllWithin (λ x. x ≤ limit) xs 0 (length xs)) (λ i. (i < length xs) × HoldsAt (λ x. limit < x) xs i × AllWithin (λ x. x ≤ limit) xs 0 i)

  index : (r : Option ℕ) → Found r → first_above limit xs ≡ unwrap_or r (length xs)
  index r h = index_from_first (first_above limit) (λ x. limit < x) (λ x. x ≤ limit) (first-of_none limit) (first-hit limit) (first-miss limit) xs r h

  found : (r : Option ℕ) → Found r → MatchOption r (length xs ≤ first_above limit xs) (λ i. (i ≡ first_above limit xs) × (i < length xs))
  found None h = omega (arith, index None h)
  found (Some i) h = (sym (index (Some i) h), h.0)

pub returns-then-largest-limit : goal.returns-then-largest-limit
returns-then-largest-limit c =
    omega (arith, first-none c.args.limit c.args.s.now (λ k h. omega (arith, c.largest.ensures k h)))

pub returns : goal.returns
returns c =
    let limit = c.args.limit in
    found limit c.args.s.now c.position.result
    (IsFirst-from_position _ _ _ (λ x. limit < x) (λ x. x ≤ limit) c.position.ensures.ran (YieldsList-from_slice c.args.s.now cc)
    (λ x q k. search (rules, tests)) (λ x q k. search (rules, tests)))
