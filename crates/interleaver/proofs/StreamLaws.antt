-- The joined stream, nibble by nibble: how many data and parity nibbles come before it, and when the next parity nibble is due.
-- Assumes nothing.
use mathlib.Core.Path.{◌≡◌, ap, ◌∙◌}
use mathlib.Core.Bool.{true, false, cond}
use Prim.Native.Nat.{ℕ, zero, ◌+◌, ◌-◌, ◌*◌, ◌/◌, ◌%◌, ◌<◌, ◌≤◌}
use native.Mathlib.Nat.{div-add-mod', add-mul, zero-div, zero-mod}
use native.Mathlib.Omega.{arith}
use lib.Arith.{digits_div, digits_mod}
use borrow.Author.Tests.{eqb-true}
use Rattle.std.proofs.lemmas.Bool.Decides.{nat_tests}
use Rattle.bits.proofs.BoolLaws.{test-cases}
use Rattle.interleaver_shape.specs.declared.Shape.{Shape}
use Rattle.interleaver.specs.Loops.Moving.{Orderly}
use Rattle.interleaver.specs.Source.{group_of, place_in, is_parity, data_place}
use Rattle.interleaver.specs.Loops.Walks.{parity_place, until_parity}
use Rattle.interleaver.proofs.SourceLaws.{place-lt, group-lt, data-place-lt}

-- the counts before nibble n, and the nibbles until the next parity nibble
abbrev Counts : Shape → ℕ → ℕ → ℕ → ℕ → Type 0
Counts L n d p left = (data_place L n ≡ d) × (parity_place L n ≡ p) × (until_parity L n ≡ left)

module _ (L : Shape) (S : Orderly L) where
  parts : (n : ℕ) → group_of L n * (L.group + 1) + place_in L n ≡ n
  parts n = div-add-mod' n (L.group + 1)

  -- the next nibble, in the same group or first in the next
  next-in : (n : ℕ) → place_in L n + 1 < L.group + 1 → (group_of L (n + 1) ≡ group_of L n) × (place_in L (n + 1) ≡ place_in L n + 1)
  next-in n h =
      let e : n + 1 ≡ group_of L n * (L.group + 1) + (place_in L n + 1) = omega (arith, parts n) in (
        ap (λ (x : ℕ). x / (L.group + 1)) e ∙ digits_div (group_of L n) h,
        ap (λ (x : ℕ). x % (L.group + 1)) e ∙ digits_mod (group_of L n) h,
      )

  next-over : (n : ℕ) → place_in L n ≡ L.group → (group_of L (n + 1) ≡ group_of L n + 1) × (place_in L (n + 1) ≡ zero)
  next-over n h =
      let pos : zero < L.group + 1 = omega arith in
      let e : n + 1 ≡ (group_of L n + 1) * (L.group + 1) + zero = omega (arith, parts n, add-mul (group_of L n) 1 (L.group + 1)) in (
        ap (λ (x : ℕ). x / (L.group + 1)) e ∙ digits_div (group_of L n + 1) pos,
        ap (λ (x : ℕ). x % (L.group + 1)) e ∙ digits_mod (group_of L n + 1) pos,
      )

  -- past a data nibble
  pub data-step : (n : ℕ) → is_parity L n ≡ false → Counts L (n + 1) (data_place L n + 1) (parity_place L n) (until_parity L n - 1)
  unfolding parity_place until_parity
  data-step n t = (
    grind (arith, nat_tests, next-in n, next-over n, place-lt L S n, S.lead-le, add-mul (group_of L n) 1 L.group),
    grind (arith, nat_tests, next-in n, next-over n, place-lt L S n, S.lead-le),
    grind (arith, nat_tests, next-in n, next-over n, place-lt L S n, S.lead-le),
  )

  -- past a parity nibble
  pub parity-step : (n : ℕ) → is_parity L n ≡ true → Counts L (n + 1) (data_place L n) (parity_place L n + 1) L.group
  unfolding parity_place until_parity
  parity-step n t = (
    grind (arith, nat_tests, next-in n, next-over n, place-lt L S n, S.lead-le, add-mul (group_of L n) 1 L.group),
    grind (arith, nat_tests, next-in n, next-over n, place-lt L S n, S.lead-le),
    grind (arith, nat_tests, next-in n, next-over n, place-lt L S n, S.lead-le),
  )

  -- a parity nibble is due where none of data comes first, and its row is that of its group
  pub parity-due : (n : ℕ) → until_parity L n ≡ zero → is_parity L n ≡ true
  unfolding until_parity
  parity-due n z = grind (arith, nat_tests, place-lt L S n)

  pub until-le : (n : ℕ) → until_parity L n ≤ L.group
  unfolding until_parity
  until-le n = grind (arith, nat_tests, S.lead-le)

  pub data-due : (n : ℕ) → zero < until_parity L n → is_parity L n ≡ false
  unfolding until_parity
  data-due n z = grind (arith, nat_tests)

  pub parity-group : (n : ℕ) → is_parity L n ≡ true → parity_place L n ≡ group_of L n
  unfolding parity_place
  parity-group n t = grind (arith, nat_tests)

  -- the nibble after n, if n holds parity
  pub parity-passed : (n m : ℕ) → m ≡ n + cond (is_parity L n) 1 0 → data_place L m ≡ data_place L n
  parity-passed n m e =
      test-cases (is_parity L n)
      (λ t. let z : m ≡ n + 1 = rw t at e in ap (data_place L) z ∙ (parity-step n t).0)
      (λ t. let z : m ≡ n + 0 = rw t at e in let y : m ≡ n = omega arith in ap (data_place L) y)

  pub counts_start : Counts L 0 0 0 L.lead
  unfolding parity_place until_parity
  counts_start = grind (arith, nat_tests, zero-div (L.group + 1), zero-mod (L.group + 1))

  -- where data nibbles are left the stream goes on; where none are, it ends after one parity nibble at most
  data-parts : (n : ℕ) → group_of L n * L.group ≤ data_place L n
  data-parts n = omega arith

  pub stream-on : (n : ℕ) → data_place L n < L.rows → n < L.rows + L.parity
  stream-on n h = grind (arith, parts n, place-lt L S n, S.rows_are)

  pub stream_end : (n : ℕ) → n < L.rows + L.parity → data_place L n ≡ L.rows → (is_parity L n ≡ true) × (n + 1 ≡ L.rows + L.parity)
  stream_end n h d =
      let t : is_parity L n ≡ true = test-cases (is_parity L n) (λ t. t) (λ t. absurd (omega (arith, data-place-lt L S n h t))) in
      let e = eqb-true (place_in L n) L.lead t in
      let d' : data_place L n ≡ group_of L n * L.group + place_in L n = grind (arith, nat_tests) in
      let g : group_of L n + 1 ≡ L.parity = grind (arith, S.rows_are, S.lead-le, S.group-pos, group-lt L S n h) in
      (t, grind (arith, parts n, S.rows_are))
