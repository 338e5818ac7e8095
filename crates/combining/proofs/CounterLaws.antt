-- Laws of a bit's counters: its votes on lanes of the cycle, the majority that its two counters tell, and pairs.
-- Assumes nothing.
use mathlib.Core.Path.{◌≡◌, refl, sym, ap, ◌∙◌}
use mathlib.Core.Bool.{Bool, cond, ◌&&◌}
use mathlib.Core.List.{List, ◌++◌}
use Prim.Native.Nat.{ℕ, zero, suc, ◌+◌, ◌*◌, ◌/◌, ◌%◌, ◌≤◌, ◌<◌}
use native.Mathlib.Nat.{zero-add, mod-eq_of_lt}
use native.Mathlib.Omega.{arith}
use lib.Dec.{eqb}
use lib.ListN.{get_or, length, take, drop, replicate, get_or-replicate, length-replicate}
use borrow.Author.Tests.{eqb-true, eqb-false, eq-eqb, ne_eqb}
use Rattle.bits.specs.Lists.{tabulate, written}
use Rattle.bits.specs.Sums.{sum, count}
use Rattle.bits.proofs.BoolLaws.{test-cases}
use Rattle.bits.proofs.NumberLaws.{lt-cases}
use Rattle.bits.proofs.ListLaws.{get_or-tabulate, tabulate-ext, written-whole}
use Rattle.bits.proofs.SumLaws.{sum-ext, sum-add}
use Rattle.votes.specs.Votes.{carries, votes, majority, decided}
use Rattle.votes.specs.Loops.Counters.{middle, counted, Adds}
use Rattle.votes.proofs.VoteLaws.{votes-le}
use Rattle.votes.proofs.CounterLaws.{adds-more, carries_same, alone, counter_at, majority-told}
use Rattle.diversity.specs.Lanes.{lane_bit, item_count}
use Rattle.diversity.specs.Copies.{copies_of}
use Rattle.diversity.specs.Loops.Cycle.{cycle_bit, cycle_lane}
use Rattle.diversity.proofs.CopyLaws.{places_of, copies_by, copies-formula}
use Rattle.diversity.proofs.CycleLaws.{cycle-I, cycle-Q, cycle-below, lane-is, two-halves}
use Rattle.combining.specs.Loops.Counters.{bit_sum, pair_sum}

-- ---- the two lanes of a bit

-- the lane of the cycle that carries bit b and is a lane Q, as 2 * b is a lane I
abbrev far : ℕ → ℕ
far b = 2 * ((b + 128) % 256) + 1

same-eqb : (x q y r : ℕ) → (x ≡ q → y ≡ r) → (y ≡ r → x ≡ q) → eqb x q ≡ eqb y r
same-eqb x q y r f g =
    test-cases (eqb x q) (λ e. e ∙ sym (eq-eqb y r (f (eqb-true x q e)))) (λ e. e ∙ sym (ne_eqb y r (λ h. eqb-false x q e (g h))))

far-of : (p b : ℕ) → p < 256 → b < 256 → (p + 128) % 256 ≡ b → p ≡ (b + 128) % 256
far-of p b h l e = omega arith

far-back : (p b : ℕ) → b < 256 → p ≡ (b + 128) % 256 → (p + 128) % 256 ≡ b
far-back p b l e = omega arith

-- an item on lane x of the cycle, where it holds the value or not, is one of lane I or of lane Q
one_lane : (t : Bool) (x b : ℕ) → x < 512 → b < 256
    → ◌≡◌ {A = ℕ} (cond (eqb (cycle_bit x) b && t) 1 0) (cond (eqb x (2 * b) && t) 1 0 + cond (eqb x (far b) && t) 1 0)
one_lane t x b h l =
    lt-cases (x % 2) 1
    (λ k.
    let at : x ≡ 2 * (x / 2) = omega arith in
    let bit : cycle_bit x ≡ x / 2 = ap cycle_bit at ∙ cycle-I (x / 2) ∙ mod-eq_of_lt (omega arith) in
    rw (same-eqb (cycle_bit x) b x (2 * b) (λ e. omega arith) (λ e. omega arith), ne_eqb x (far b) (λ e. omega arith)) (omega arith))
    (λ k.
    let at : x ≡ 2 * (x / 2) + 1 = omega arith in
    let bit : cycle_bit x ≡ (x / 2 + 128) % 256 = ap cycle_bit at ∙ cycle-Q (x / 2) in
    let there : cycle_bit x ≡ b → x ≡ far b = λ e. omega (arith, far-of (x / 2) b (omega arith) l (sym bit ∙ e)) in
    let back : x ≡ far b → cycle_bit x ≡ b = λ e. bit ∙ far-back (x / 2) b l (omega arith) in
    rw (same-eqb (cycle_bit x) b x (far b) there back, ne_eqb x (2 * b) (λ e. omega arith)) (omega arith))

-- ---- sums

four-each : (n : ℕ) (f : ℕ → ℕ) → ((k : ℕ) → k < n → f k ≤ 4) → sum n f ≤ 4 * n
unfolding sum
four-each zero f h = omega arith
four-each (suc n) f h = omega (arith, four-each n f (λ k l. h k (omega arith)), h n (omega arith))

-- ---- two counters

-- two counters, after p ones and q zeros and after r and s, are together one, modulo 256
two-counters : (p q r s x y : ℕ) → x ≡ (middle + p + 255 * q) % 256 → y ≡ (middle + r + 255 * s) % 256
    → (x + y) % 256 ≡ (2 * middle + (p + r) + 255 * (q + s)) % 256
two-counters p q r s x y e f = omega arith

-- ---- runs

-- the votes of a run, counted behind those before it
pub run-counted : (C : ℕ) (os items start now later : List ℕ) (n q m done next : ℕ) → ((j : ℕ) → j < m → cycle_lane C os (n + j) ≡ q + j)
    → n ≡ done → next ≡ n + m → length now ≡ 512 → Adds 512 0 done (carries (cycle_lane C os)) items start now
    → Adds (length now) n m (carries (λ j. q + j)) items now later → Adds 512 0 next (carries (cycle_lane C os)) items start later
run-counted C os items start now later n q m done next in-row here more long before votes =
    rw more
    (adds-more 512 0 (carries (cycle_lane C os)) items start n m (carries (λ j. q + j)) now later
    (rw here before) (rw (zero-add n) (rw long at votes))
    (λ j x h. carries_same (λ j. q + j) (cycle_lane C os) j (n + j) (sym (in-row j h)) x))

-- ---- all items of symbols of C carriers under the offsets os

module _ (C : ℕ) (os items : List ℕ) where
  abbrev all : ℕ
  all = item_count C os

  -- the votes of all items for a lane of the cycle, and for a bit
  abbrev lane_votes : ℕ → ℕ → ℕ
  lane_votes q v = votes all (carries (cycle_lane C os)) items q v

  abbrev bit_votes : ℕ → ℕ → ℕ
  bit_votes b v = votes all (carries (lane_bit C os)) items b v

  -- those for a bit are those for its two lanes
  votes-lanes : (b v : ℕ) → b < 256 → bit_votes b v ≡ lane_votes (2 * b) v + lane_votes (far b) v
  unfolding votes carries count
  votes-lanes b v h =
      sum-ext all _ _ (λ n l. rw (lane-is C os n) (one_lane (eqb (get_or items n 0) v) (cycle_lane C os n) b (cycle-below C os n) h))
      ∙ sum-add all (λ n. cond (eqb (cycle_lane C os n) (2 * b) && eqb (get_or items n 0) v) 1 0)
      (λ n. cond (eqb (cycle_lane C os n) (far b) && eqb (get_or items n 0) v) 1 0)

  -- and are few: a symbol of at most 512 carriers has at most four copies of a bit
  few-votes : (b v : ℕ) → C ≤ 512 → b < 256 → bit_votes b v ≤ 4 * length os
  unfolding copies_of copies_by
  few-votes b v small h =
      omega (
        arith,
        votes-le all (carries (lane_bit C os)) items b v,
        copies-formula C os b h,
        four-each (length os) (λ s. places_of C (get_or os s 0) b + places_of C (get_or os s 0 + 128) b) (λ s l. omega arith),
      )

  -- the counters of each bit tell its majority
  pub counters-decide : (now r : List ℕ) → C ≤ 512 → length os < 32
      → Adds 512 0 all (carries (cycle_lane C os)) items (replicate 512 middle) now → r ≡ tabulate 256 (λ b. majority (2 * middle) (bit_sum now b))
      → r ≡ tabulate 256 (decided all (carries (lane_bit C os)) items)
  unfolding decided bit_sum
  counters-decide now r small few adds e = e ∙ tabulate-ext 256 _ _ bit
    where
      middle-at : (q : ℕ) → q < 512 → get_or (replicate 512 middle) q 0 ≡ middle
      middle-at q l = get_or-replicate 512 q middle 0 l

      counted-now : now ≡ counted 512 all (carries (cycle_lane C os)) items (replicate 512 middle)
      counted-now =
          alone 512 all (carries (cycle_lane C os)) items (replicate 512 middle) now adds
          (length-replicate 512 middle) (λ q l. omega (arith, middle-at q l))

      lane-at : (q : ℕ) → q < 512 → get_or now q 0 ≡ (middle + lane_votes q 1 + 255 * lane_votes q 0) % 256
      lane-at q l = counter_at 512 all (carries (cycle_lane C os)) items (replicate 512 middle) now counted-now q l ∙ rw (middle-at q l)

      bit : (b : ℕ) → b < 256 → majority (2 * middle) ((get_or now (2 * b) 0 + get_or now (far b) 0) % 256) ≡ majority (bit_votes b 0) (bit_votes b 1)
      bit b l =
          majority-told (2 * middle) (bit_votes b 0) (bit_votes b 1) _ (omega (arith, few-votes b 0 small l)) (omega (arith, few-votes b 1 small l))
          (rw (votes-lanes b 0 l, votes-lanes b 1 l)
          (two-counters _ _ _ _ _ _ (lane-at (2 * b) (omega arith)) (lane-at (far b) (omega arith))))

-- ---- pairs

-- the pairs that neither lane wraps to
pub pair-sum : (both : List ℕ) (first b i q : ℕ) → first % 128 ≡ 0 → first < 256 → b < 128
    → i ≡ (first + 0) % 256 → q ≡ (first + 0 + 128) % 256
    → (get_or both (i + b) 0 % 256 + get_or both (q + b) 0 / 256) % 256 ≡ pair_sum both (first + b)
unfolding pair_sum
pair-sum both first b i q h k l e f =
    let low : i + b ≡ first + b = omega arith in
    let high : q + b ≡ (first + b + 128) % 256 = omega arith in
    rw (low, high)

-- two halves are all bits
pub all-bits : (both bits first part : List ℕ) → length bits ≡ 256
    → first ≡ written 128 (λ b. majority (2 * middle) (pair_sum both (0 + b))) bits
    → part ≡ written 128 (λ b. majority (2 * middle) (pair_sum both (128 + b))) (take 128 (drop 128 first))
    → take 128 first ++ (part ++ drop 128 (drop 128 first)) ≡ tabulate 256 (λ b. majority (2 * middle) (pair_sum both b))
all-bits both bits first part long one two =
    written-whole 256 256 _ bits _
    (two-halves 128 128 (λ b. majority (2 * middle) (pair_sum both b)) bits first part (omega arith) (omega arith) one two) refl long

-- pairs of counters, each a byte, are these counters
pub pairs_decide : (counters both r : List ℕ) → ((q : ℕ) → get_or counters q 0 < 256)
    → both ≡ tabulate 256 (λ p. get_or counters (2 * p) 0 + 256 * get_or counters (2 * p + 1) 0)
    → r ≡ tabulate 256 (λ b. majority (2 * middle) (pair_sum both b)) → r ≡ tabulate 256 (λ b. majority (2 * middle) (bit_sum counters b))
unfolding pair_sum bit_sum
pairs_decide counters both r bytes f g = g ∙ tabulate-ext 256 _ _ (λ b l. ap (λ (x : ℕ). majority (2 * middle) (x % 256)) (bit b l))
  where
    pair-at : (p : ℕ) → p < 256 → get_or both p 0 ≡ get_or counters (2 * p) 0 + 256 * get_or counters (2 * p + 1) 0
    pair-at p l = rw f (get_or-tabulate 256 _ p 0 l)

    bit : (b : ℕ) → b < 256
        → get_or both b 0 % 256 + get_or both ((b + 128) % 256) 0 / 256 ≡ get_or counters (2 * b) 0 + get_or counters (far b) 0
    bit b l =
        omega (
          arith,
          pair-at b l,
          pair-at ((b + 128) % 256) (omega arith),
          bytes (2 * b),
          bytes (2 * ((b + 128) % 256)),
        )
