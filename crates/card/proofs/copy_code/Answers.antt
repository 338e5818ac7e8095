-- `card::copy_code` meets its contract: the code is the first index at which the count stands. Assumes nothing.
use mathlib.Core.List.{List, [], ◌∷◌}
use mathlib.Core.Path.{◌≡◌, refl, sym, ◌∙◌}
use Prim.Native.Nat.{ℕ, ◌+◌}
use native.Mathlib.Numerals.{add-one}
use lib.Dec.{eqb}
use lib.ListN.{length, get_or}
use borrow.Author.Rules.{rules}
use borrow.Author.Tests.{tests, eq-eqb, ne_eqb}
use Rattle.std.proofs.lemmas.Iterator.{IsFirst-from_position, YieldsList-from_slice, index_from_first}
use Rattle.bits.specs.Lists.{lowest}
use Rattle.card.specs.Card.{copy_counts, copy_code}
use Rattle.card.proofs.copy_code.Goals as goal

-- the first index at which a number stands, or the length
abbrev place : ℕ → List ℕ → ℕ
place n xs = lowest (length xs) (λ k. eqb n (get_or xs k 0))

place-none : (n : ℕ) → place n [] ≡ 0
unfolding lowest
place-none n = refl

place-hit : (n x : ℕ) (xs : List ℕ) → x ≡ n → place n (x ∷ xs) ≡ 0
unfolding lowest
place-hit n x xs h = rw (eq-eqb n x (sym h))

place-miss : (n x : ℕ) (xs : List ℕ) → (x ≡ n → ⊥) → place n (x ∷ xs) ≡ place n xs + 1
unfolding lowest
place-miss n x xs h = rw (ne_eqb n x (λ e. h (sym e))) (sym (add-one _))

pub returns : goal.returns
unfolding copy_code
returns c =
    let n = c.args.copies in
    c.unwrap_or.ensures
    ∙ sym (index_from_first (place n) (λ x. x ≡ n) (λ x. x ≡ n → ⊥) (place-none n) (place-hit n) (place-miss n) copy_counts c.position.result
    (IsFirst-from_position _ _ _ (λ x. x ≡ n) (λ x. x ≡ n → ⊥) c.position.ensures.ran (YieldsList-from_slice copy_counts cc)
    (λ x q k. search (rules, tests)) (λ x q k. search (rules, tests))))
