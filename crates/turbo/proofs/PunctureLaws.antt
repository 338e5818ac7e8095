-- What puncturing keeps, and the order of the kept times. Assumes nothing.
use mathlib.Core.Path.{◌≡◌, refl, sym, ap, ap₂, ◌∙◌}
use mathlib.Core.Bool.{true, false, ◌||◌}
use mathlib.Core.List.{[], ◌∷◌}
use Prim.Native.Nat.{ℕ, zero, suc, ◌+◌, ◌*◌, ◌/◌, ◌%◌, ◌≤◌, ◌<◌, ◌^◌}
use native.Mathlib.Nat.{mod-lt}
use native.Mathlib.Omega.{arith}
use lib.Bits.{bit_or}
use lib.Count.{ones, ones_in, count_trailing_zeros}
use lib.Dec.{eqb, lit<}
use lib.ListN.{get_or}
use Rattle.bits.specs.Bits.{bit_at}
use Rattle.bits.specs.Lists.{lowest}
use Rattle.bits.specs.Sums.{sum, count}
use Rattle.bits.proofs.RangeLaws.{agree, agree₂, agree-tests}
use Rattle.bits.proofs.SumLaws.{count-append, count-ext, count-le, lowest-nth, nth}
use Rattle.constituent.specs.Pairs.{pair_count}
use Rattle.turbo.specs.Puncture.{pattern, kept, kept_time, kept_count}
use Rattle.turbo.specs.Loops.Keeping.{kept_from}

-- puncturing goes by t mod 16
kept-mod : (rate t : ℕ) → kept rate t ≡ kept rate (t % 16)
unfolding kept
kept-mod rate t = let e : t % 16 % 16 ≡ t % 16 = omega arith in rw e

-- rate 1/2 keeps all
pub kept-all : (t : ℕ) → kept 0 t ≡ true
unfolding kept
kept-all t = kept-mod 0 t ∙ agree-tests 16 (kept 0) (λ r. true) tt (t % 16) (mod-lt t (lit< tt))

-- rate 16/18 keeps t where t mod 16 is 7 or 15, and no other
pub kept_at : (t : ℕ) → kept 1 t ≡ (eqb (t % 16) 7 || eqb (t % 16) 15)
unfolding kept
kept_at t = kept-mod 1 t ∙ agree-tests 16 (kept 1) (λ r. eqb r 7 || eqb r 15) tt (t % 16) (mod-lt t (lit< tt))

-- the ones of each pattern, counted once
abbrev pub ones_of : ℕ → ℕ
ones_of rate = get_or (16 ∷ 2 ∷ []) rate 0

pub pattern-ones : (rate : ℕ) → rate < 2 → ones (pattern rate) ≡ ones_of rate
unfolding ones ones_in
pattern-ones = agree 2 (λ rate. ones (pattern rate)) ones_of tt

-- of every sixteen times as many are kept as the pattern has ones, computed at every kind and rate
ones-kept : (kind rate : ℕ) → kind < 5 → rate < 2 → pair_count kind / 8 * ones_of rate ≡ kept_count kind rate
unfolding kept_count kept count sum
ones-kept = agree₂ 5 2 (λ kind rate. pair_count kind / 8 * ones_of rate) kept_count tt

pub kept-count : (kind rate : ℕ) → kind < 5 → rate < 2 → pair_count kind / 8 * ones (pattern rate) ≡ kept_count kind rate
kept-count kind rate h l = ap (◌*◌ (pair_count kind / 8)) (pattern-ones rate l) ∙ ones-kept kind rate h l

-- 520 parity bits remain of the longest block at rate 16/18
pub remain : kept_count 4 1 ≡ 520
remain = sym (ones-kept 4 1 (lit< tt) (lit< tt))

-- a time that is kept is the one after as many others as are kept before it
pub kept-time : (kind rate t : ℕ) → t < pair_count kind → kept rate t ≡ true → kept_time kind rate (count t (kept rate)) ≡ t
unfolding kept_time
kept-time kind rate t h e = lowest-nth (pair_count kind) (kept rate) t h e

-- every kept bit has its time in the block
pub time-lt : (kind rate i : ℕ) → i < kept_count kind rate → kept_time kind rate (i / 2) < pair_count kind
unfolding kept_count
time-lt kind rate i h =
    let (t, l, e, q) = nth (pair_count kind) (kept rate) (i / 2) (omega arith) in
    let s : kept_time kind rate (i / 2) ≡ t = ap (kept_time kind rate) (sym q) ∙ kept-time kind rate t l e in
    omega arith

-- at most all are kept
pub kept-le : (kind rate : ℕ) → kept_count kind rate ≤ 2 * pair_count kind
unfolding kept_count
kept-le kind rate = omega (arith, count-le (pair_count kind) (kept rate))

-- ---- the places of the pattern

-- a place and the zeros from there to the next one, as the code counts them, at every rate and place
pub kept_from_lem : (rate from : ℕ) → rate < 2 → from < 16 → from + count_trailing_zeros 32 (bit_or (pattern rate) 65536 / 2 ^ from) ≡ kept_from rate from
unfolding kept_from kept lowest count_trailing_zeros
kept_from_lem = agree₂ 2 16 (λ rate from. from + count_trailing_zeros 32 (bit_or (pattern rate) 65536 / 2 ^ from)) kept_from tt

-- ---- two times of every sixteen

-- the two places that rate 16/18 keeps, and how many are kept before each
place_kept : (k : ℕ) → k < 2 → kept 1 (8 * k + 7) ≡ true
unfolding kept
place_kept = agree-tests 2 (λ k. kept 1 (8 * k + 7)) (λ k. true) tt

place-count : (k : ℕ) → k < 2 → count (8 * k + 7) (kept 1) ≡ k
unfolding kept count sum
place-count = agree 2 (λ k. count (8 * k + 7) (kept 1)) (λ k. k) tt

-- a row has the places of the first
kept_row : (r k : ℕ) → kept 1 (16 * r + k) ≡ kept 1 k
kept_row r k = let e : (16 * r + k) % 16 ≡ k % 16 = omega arith in kept-mod 1 (16 * r + k) ∙ ap (kept 1) e ∙ sym (kept-mod 1 k)

row-two : count 16 (kept 1) ≡ 2
unfolding kept count sum
row-two = refl

-- how many are kept before row r, and before its place p
count-rows : (r : ℕ) → count (16 * r) (kept 1) ≡ 2 * r
unfolding count sum
count-rows zero = refl
count-rows (suc r) =
    let e : 16 * suc r ≡ 16 * r + 16 = omega arith in
    ap (λ (m : ℕ). count m (kept 1)) e
    ∙ count-append (16 * r) 16 (kept 1)
    ∙ ap₂ ◌+◌ (count-rows r) (count-ext 16 (λ k. kept 1 (16 * r + k)) (kept 1) (λ k h. kept_row r k) ∙ row-two)
    ∙ omega arith

count-row : (r p : ℕ) → count (16 * r + p) (kept 1) ≡ 2 * r + count p (kept 1)
count-row r p =
    count-append (16 * r) p (kept 1) ∙ ap₂ ◌+◌ (count-rows r) (count-ext p (λ k. kept 1 (16 * r + k)) (kept 1) (λ k h. kept_row r k))

-- rate 16/18 keeps every eighth time, from 7 on
pub every-eighth : (kind n : ℕ) → 8 * n + 7 < pair_count kind → kept_time kind 1 n ≡ 8 * n + 7
every-eighth kind n h =
    let p : ℕ = 8 * (n % 2) + 7 in
    let t : ℕ = 16 * (n / 2) + p in
    let l : n % 2 < 2 = mod-lt n (lit< tt) in
    let e : n ≡ count t (kept 1) = omega (arith, count-row (n / 2) p, place-count (n % 2) l) in
    ap (kept_time kind 1) e ∙ kept-time kind 1 t (omega arith) (kept_row (n / 2) p ∙ place_kept (n % 2) l) ∙ omega arith

-- the rate that does not keep all
pub not-all : (rate : ℕ) → rate < 2 → eqb (pattern rate) 65535 ≡ false → rate ≡ 1
not-all zero h e = let z : ◌≡◌ {A = ℕ} 0 1 = cc in absurd (omega arith)
not-all (suc zero) h e = refl
not-all (suc (suc rate)) h e = absurd (omega arith)

-- the places as the search finds them
places-found : (kept_from 1 0 ≡ 7) × (kept_from 1 (kept_from 1 0 + 1) ≡ 15)
unfolding kept_from kept lowest
places-found = (refl, refl)

-- both are in their row
pub places-lt : (rate : ℕ) → rate ≡ 1 → (kept_from rate 0 < 15) × (kept_from rate (kept_from rate 0 + 1) < 16)
places-lt rate e = rw e (omega (arith, places-found.0), omega (arith, places-found.1))

-- two rows for each byte that is kept are in the block
pub rows-in-block : (kind rate i : ℕ) → kind < 5 → rate ≡ 1 → i < kept_count kind rate / 8 → 32 * i + 32 ≤ pair_count kind
rows-in-block kind rate i h e l =
    let n : pair_count kind / 8 * 2 ≡ kept_count kind 1 = ones-kept kind 1 h (lit< tt) in
    let b : i < kept_count kind 1 / 8 = rw e at l in
    omega arith

-- the times that are kept: two of row r
module _ (kind r : ℕ) (h : 16 * r + 16 ≤ pair_count kind) where
  pub time-first : kept_time kind 1 (2 * r) ≡ 16 * r + kept_from 1 0
  time-first = every-eighth kind (2 * r) (omega arith) ∙ omega (arith, places-found.0)

  pub time-second : kept_time kind 1 (2 * r + 1) ≡ 16 * r + kept_from 1 (kept_from 1 0 + 1)
  time-second = every-eighth kind (2 * r + 1) (omega arith) ∙ omega (arith, places-found.1)

-- ---- a pattern of ones

module _ (kind rate : ℕ) (e : pattern rate ≡ 65535) where
  all-kept : (t : ℕ) → kept rate t ≡ true
  unfolding kept
  all-kept t = rw e (agree-tests 16 (λ r. eqb (bit_at r 65535) 1) (λ r. true) tt (t % 16) (mod-lt t (lit< tt)))

  all-counted : (t : ℕ) → count t (kept rate) ≡ t
  unfolding count sum
  all-counted zero = refl
  all-counted (suc t) = rw (all-kept t, all-counted t) (omega arith)

  pub all-count : kept_count kind rate ≡ 2 * pair_count kind
  unfolding kept_count
  all-count = ap (◌*◌ 2) (all-counted (pair_count kind))

  pub all-time : (t : ℕ) → t < pair_count kind → kept_time kind rate t ≡ t
  all-time t h = ap (kept_time kind rate) (sym (all-counted t)) ∙ kept-time kind rate t h (all-kept t)
