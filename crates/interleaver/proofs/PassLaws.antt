-- The passes take each row once, for every number of rows, every step of at least 1 and every offset; the walk without a restart does,
-- where the step has an inverse. The list of passes is the order of a formula. Assumes nothing.
use mathlib.Core.Path.{◌≡◌, refl, sym, ap, ap₂, ◌∙◌}
use mathlib.Core.Bool.{cond}
use mathlib.Core.List.{List, ◌++◌}
use Prim.Native.Nat.{ℕ, zero, suc, ◌+◌, ◌-◌, ◌*◌, ◌/◌, ◌%◌, ◌<◌, ◌≤◌, min}
use native.Mathlib.Nat.{mod-lt, div-add-mod', div-le_self, div-lt_iff_lt-mul, mod-add-mod, add_comm, mul-add, mul-sub, mul_comm}
use native.Mathlib.Nat.{le-mul_of_pos_right, mul-le-mul_right}
use native.Mathlib.Omega.{arith}
use lib.Dec.{ltb, leb}
use lib.Arith.{digits_div, digits_mod}
use lib.ListN.{get_or}
use borrow.Author.Tests.{lt-ltb, le-ltb, le-leb, lt-leb}
use Rattle.bits.specs.Lists.{tabulate}
use Rattle.bits.specs.Permutations.{Permutes, Once}
use Rattle.bits.proofs.NumberLaws.{lt-cases}
use Rattle.bits.proofs.ListLaws.{get_or-tabulate, tabulate-ext, tabulate-append, lowest-here, lowest-none}
use Rattle.bits.proofs.PermutationLaws.{once, after, undone, permutes-ext, moves, scales}
use Rattle.interleaver.specs.Rows.{pass_length, pass, passes, pass_row, moved_row, continuous_row}

-- where pass j starts: each pass before it takes R / step rows, and each of the first R % step one more
abbrev pub pass_start : ℕ → ℕ → ℕ → ℕ
pass_start R step j = j * (R / step) + min j (R % step)

-- the place of a row: it is the row / step th of pass row % step
abbrev pub place_of : ℕ → ℕ → ℕ → ℕ
place_of R step row = pass_start R step (row % step) + row / step

-- the row at place p by a formula: in one of the longer passes, and in one of the others
abbrev pub long_row : ℕ → ℕ → ℕ → ℕ
long_row R step p = p / (R / step + 1) + p % (R / step + 1) * step

abbrev pub short_row : ℕ → ℕ → ℕ → ℕ
short_row R step o = R % step + o / (R / step) + o % (R / step) * step

abbrev pub row_at : ℕ → ℕ → ℕ → ℕ
row_at R step p = cond (ltb p (R % step * (R / step + 1))) (long_row R step p) (short_row R step (p - R % step * (R / step + 1)))

-- pass j by the formula: how many rows it takes, where the next pass starts, and its k-th row
abbrev pub Passed : ℕ → ℕ → ℕ → Type 0
Passed R s j =
    (c : ℕ) × (pass_length R s j ≡ c) × (R ≤ j + c * s) × (pass_start R s (suc j) ≡ pass_start R s j + c)
    × ((k : ℕ) → k < c → row_at R s (pass_start R s j + k) ≡ j + k * s)

-- place p is the k-th of pass j
abbrev pub Found : ℕ → ℕ → ℕ → Type 0
Found R s p = (j : ℕ) × (k : ℕ) × (j < s) × (j + k * s < R) × (p ≡ pass_start R s j + k) × (row_at R s p ≡ j + k * s)

module _ (R s : ℕ) (pos : zero < s) where
  whole : R / s * s + R % s ≡ R
  whole = div-add-mod' R s

  rest : R % s < s
  rest = mod-lt R pos

  row-long : (p : ℕ) → p < R % s * (R / s + 1) → row_at R s p ≡ long_row R s p
  row-long p h = rw (lt-ltb p (R % s * (R / s + 1)) h)

  row-short : (p : ℕ) → R % s * (R / s + 1) ≤ p → row_at R s p ≡ short_row R s (p - R % s * (R / s + 1))
  row-short p h = rw (le-ltb p (R % s * (R / s + 1)) h)

  -- a pass is as long as the number of its rows below R
  pub length-is : (j c : ℕ) → c ≤ R → ((k : ℕ) → k < c → j + k * s < R) → R ≤ j + c * s → pass_length R s j ≡ c
  unfolding pass_length
  length-is j c h below past =
      lt-cases c R
      (λ l. lowest-here R (λ k. leb R (j + k * s)) c l (λ k b. lt-leb R (j + k * s) (below k b)) (le-leb R (j + c * s) past))
      (λ l.
      let e : R ≡ c = omega arith in
      lowest-none R (λ k. leb R (j + k * s)) (λ k b. lt-leb R (j + k * s) (below k (omega arith))) ∙ e)

  pub pass-is : (j : ℕ) → j < s → Passed R s j
  pass-is j hj = lt-cases j (R % s) long short
    where
      long : j < R % s → Passed R s j
      long l = (
        R / s + 1,
        length-is j (R / s + 1) (omega (arith, whole, le-mul_of_pos_right (R / s) pos)) (λ k b. grind (arith, whole)) (grind (arith, whole, rest)),
        grind (arith, whole, rest),
        grind arith,
        λ k b.
            let e : pass_start R s j + k ≡ j * (R / s + 1) + k = grind arith in
            let d : j * (R / s + 1) + k < R % s * (R / s + 1) = grind (arith, mul-le-mul_right {m = suc j} {n = R % s} (R / s + 1) l) in
            ap (row_at R s) e ∙ row-long (j * (R / s + 1) + k) d ∙ ap₂ (λ (a b : ℕ). a + b * s) (digits_div j b) (digits_mod j b),
      )

      short : R % s ≤ j → Passed R s j
      short l = (
        R / s,
        length-is j (R / s) (div-le_self R s) (λ k b. grind (arith, whole, mul-le-mul_right {m = suc k} {n = R / s} s b)) (omega (arith, whole)),
        omega (arith, whole),
        grind arith,
        λ k b.
            let z : R % s + (j - R % s) ≡ j = omega arith in
            let e : pass_start R s j + k ≡ R % s * (R / s + 1) + ((j - R % s) * (R / s) + k) = grind (arith, ap (λ (x : ℕ). x * (R / s)) z) in
            let d : R % s * (R / s + 1) + ((j - R % s) * (R / s) + k) - R % s * (R / s + 1) ≡ (j - R % s) * (R / s) + k = omega arith in
            ap (row_at R s) e ∙ row-short (R % s * (R / s + 1) + ((j - R % s) * (R / s) + k)) (omega arith) ∙ ap (short_row R s) d
            ∙ ap₂ (λ (a b : ℕ). R % s + a + b * s) (digits_div (j - R % s) b) (digits_mod (j - R % s) b) ∙ omega arith,
      )

  pub up_to : (j : ℕ) → j ≤ s → passes R s j ≡ tabulate (pass_start R s j) (row_at R s)
  unfolding passes pass tabulate
  up_to zero h = ap (λ (n : ℕ). tabulate n (row_at R s)) (let z : zero ≡ pass_start R s zero = omega arith in z)
  up_to (suc j) h =
      let (c, len, end, next, at) = pass-is j (omega arith) in
      let rows : pass R s j ≡ tabulate c (λ k. row_at R s (pass_start R s j + k)) =
      ap (λ (n : ℕ). tabulate n (λ k. j + k * s)) len ∙ tabulate-ext c (λ k. j + k * s) (λ k. row_at R s (pass_start R s j + k)) (λ k b. sym (at k b)) in
      ap₂ (λ (a b : List ℕ). a ++ b) (up_to j (omega arith)) rows
      ∙ sym (tabulate-append (pass_start R s j) c (row_at R s)) ∙ ap (λ (n : ℕ). tabulate n (row_at R s)) (sym next)

  -- the list of all passes is the formula's order
  pub passes-listed : passes R s s ≡ tabulate R (row_at R s)
  passes-listed =
      up_to s (omega arith) ∙ ap (λ (n : ℕ). tabulate n (row_at R s)) (let z : pass_start R s s ≡ R = omega (arith, whole, rest, mul_comm s (R / s)) in z)

  pub pass-row : (p : ℕ) → p < R → pass_row R s p ≡ row_at R s p
  unfolding pass_row
  pass-row p h = ap (λ (l : List ℕ). get_or l p 0) passes-listed ∙ get_or-tabulate R (row_at R s) p 0 h

  -- past the longer passes there are rows only where the others have some
  short-pos : (p : ℕ) → p < R → R % s * (R / s + 1) ≤ p → zero < R / s
  short-pos p h l = grind (arith, whole)

  -- the pass of a place, and how far in it stands
  pub find : (p : ℕ) → p < R → Found R s p
  find p h = lt-cases p (R % s * (R / s + 1)) long short
    where
      long : p < R % s * (R / s + 1) → Found R s p
      long l =
          let hj : p / (R / s + 1) < R % s = (div-lt_iff_lt-mul {k = R / s + 1} (omega arith)).1 l in
          let hk : p % (R / s + 1) < R / s + 1 = mod-lt p (omega arith) in (
            p / (R / s + 1),
            p % (R / s + 1),
            omega (arith, rest),
            grind (arith, whole, mul-le-mul_right {m = p % (R / s + 1)} {n = R / s} s (omega arith)),
            grind (arith, div-add-mod' p (R / s + 1)),
            row-long p l,
          )

      short : R % s * (R / s + 1) ≤ p → Found R s p
      short l =
          let q = R / s in
          let r = R % s in
          let o = p - r * (q + 1) in
          let hq : zero < q = short-pos p h l in
          let ho : o < (s - r) * q = omega (arith, whole, rest, mul-add r q 1, mul_comm (s - r) q, mul-sub q s r, mul_comm q r) in
          let hj : o / q < s - r = (div-lt_iff_lt-mul {k = q} hq).1 ho in
          let hk : o % q < q = mod-lt o hq in (
            r + o / q,
            o % q,
            omega arith,
            grind (arith, whole, mul-le-mul_right {m = suc (o % q)} {n = q} s hk),
            grind (arith, div-add-mod' o q),
            row-short p l,
          )

  -- each row once
  pub pass-permutes : Permutes R (pass_row R s)
  pass-permutes = permutes-ext (row_at R s) (pass_row R s) pass-row (undone (row_at R s) (place_of R s) small back)
    where
      small : (p : ℕ) → p < R → row_at R s p < R
      small p h = let (j, k, hj, hR, e, d) = find p h in omega arith

      back : (p : ℕ) → p < R → place_of R s (row_at R s p) ≡ p
      back p h =
          let (j, k, hj, hR, e, d) = find p h in
          let digits : j + k * s ≡ k * s + j = omega arith in
          ap (place_of R s) (d ∙ digits) ∙ ap₂ (λ (a b : ℕ). pass_start R s a + b) (digits_mod k hj) (digits_div k hj) ∙ sym e

-- the passes take each row once, for every step of at least 1 and every offset
pub moved-permutes : (R step offset : ℕ) → zero < step → Permutes R (λ p. moved_row R offset (pass_row R step p))
moved-permutes R step offset pos = after (moves R offset) (pass-permutes R step pos)

pub passes-once : (R step offset : ℕ) → zero < step → Once R (λ p. moved_row R offset (pass_row R step p))
passes-once R step offset pos = once R (λ p. moved_row R offset (pass_row R step p)) (moved-permutes R step offset pos)

-- the walk without a restart takes each row once, for every step that has an inverse modulo the number of rows and every offset
pub continuous-permutes : (R step inverse rounds offset : ℕ) → step * inverse ≡ 1 + rounds * R → Permutes R (continuous_row R step offset)
continuous-permutes R step inverse rounds offset e =
    permutes-ext (λ p. (p * step % R + offset) % R) (continuous_row R step offset)
    (λ p h. ap (λ (x : ℕ). x % R) (add_comm offset (p * step)) ∙ sym (mod-add-mod (p * step) R offset)) (after (moves R offset) (scales R step inverse rounds e))

pub continuous-once : (R step inverse rounds offset : ℕ) → step * inverse ≡ 1 + rounds * R → Once R (continuous_row R step offset)
continuous-once R step inverse rounds offset e = once R (continuous_row R step offset) (continuous-permutes R step inverse rounds offset e)

-- the walk of Table 11: 130 parity rows, step 11, offset 60; 11 · 71 is 1 + 6 · 130
pub walk-130 : Once 130 (continuous_row 130 11 60)
walk-130 = continuous-once 130 11 71 6 60 refl
