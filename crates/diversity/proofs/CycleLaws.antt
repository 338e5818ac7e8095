-- Laws of the cycle: the bits on its lanes, a cycle of copies, and the runs of a symbol on it. Assumes nothing.
use Rattle.std.proofs.Common.{◌≡◌, ℕ, ◌+◌, ◌-◌, ◌*◌, ◌/◌, ◌%◌, ◌<◌, ◌≤◌, min, List, ◌++◌, length, get_or, take, drop, set, refl, sym, ap, ◌∙◌, append_assoc, arith, length-take, length-drop}
use Rattle.std.proofs.Math.Nat.{lt_of_mul-lt-mul_left, lt_of_mul-lt-mul_right}
use Rattle.std.proofs.lemmas.List.{get_or-take, get_or-drop, drop-drop, drop_at}
use lib.Arith.{digits_div, digits_mod}
use Rattle.bits.specs.Lists.{tabulate, written}
use Rattle.bits.proofs.NumberLaws.{lt-cases, row_next, row_within}
use Rattle.bits.proofs.ListLaws.{length-tabulate, get_or-tabulate, tabulate-of, tabulate-append, take-written, length-written, written-two, written-part, written_all, written-ext, written-whole}
use Rattle.diversity.specs.Lanes.{lane_bit, carrier_count, item_count}
use Rattle.diversity.specs.Loops.Cycle.{cycle_bit, cycle_lane, IsRun}

-- ---- the bits on its lanes

-- the two lanes of place p
pub cycle-I : (p : ℕ) → cycle_bit (2 * p) ≡ p % 256
unfolding cycle_bit
cycle-I p =
    let half : 2 * p / 2 ≡ p = omega arith in
    let even : 2 * p % 2 ≡ 0 = omega arith in
    rw (half, even) (omega arith)

pub cycle-Q : (p : ℕ) → cycle_bit (2 * p + 1) ≡ (p + 128) % 256
unfolding cycle_bit
cycle-Q p =
    let half : (2 * p + 1) / 2 ≡ p = omega arith in
    let odd : (2 * p + 1) % 2 ≡ 1 = omega arith in
    rw (half, odd)

-- ---- a cycle of copies

-- the two bits of a place are written, where neither lane wraps
pub place-written : (p c i q : ℕ) (coded out now : List ℕ) → p % 128 ≡ 0 → c < 128 → 2 * c + 1 < length out
    → now ≡ written (2 * c) (λ n. get_or coded (cycle_bit (2 * p + n)) 0) out → i ≡ (p + 0) % 256 → q ≡ (p + 0 + 128) % 256
    → set (set now (2 * c) (get_or coded (i + c) 0)) (2 * c + 1) (get_or coded (q + c) 0)
    ≡ written (2 * (c + 1)) (λ n. get_or coded (cycle_bit (2 * p + n)) 0) out
place-written p c i q coded out now h l k e f g =
    written_all _ _ _ _ _
    (written-two (2 * c) _ _ _ out now e k (ap (λ (b : ℕ). get_or coded b 0) lane-i) (ap (λ (b : ℕ). get_or coded b 0) lane-q))
    (omega arith)
  where
    lane-i : i + c ≡ cycle_bit (2 * p + 2 * c)
    lane-i = let at : 2 * p + 2 * c ≡ 2 * (p + c) = omega arith in rw (at, cycle-I (p + c)) (omega arith)

    lane-q : q + c ≡ cycle_bit (2 * p + (2 * c + 1))
    lane-q = let at : 2 * p + (2 * c + 1) ≡ 2 * (p + c) + 1 = omega arith in rw (at, cycle-Q (p + c)) (omega arith)

-- two halves of m elements each, the second through the part from m on, which is then put back
pub two-halves : (m k : ℕ) (f : ℕ → ℕ) (out first part : List ℕ) → k ≡ length out - m → m ≤ length out → first ≡ written m (λ n. f (0 + n)) out
    → part ≡ written m (λ n. f (m + n)) (take k (drop m first))
    → take m first ++ (part ++ drop k (drop m first)) ≡ written (m + m) f out
two-halves m k f out first part w room one two =
    rw rest
    (written-part m m f _ out first part
    (one ∙ written-ext m _ f out (λ i l. let e : 0 + i ≡ i = omega arith in ap f e)) (λ j l. refl) (rw rest at two))
  where
    rest : k ≡ length first - m
    rest = rw one (omega (arith, length-written m (λ n. f (0 + n)) out room))

-- two halves of a cycle fill it
pub cycle-filled : (coded cycle first part : List ℕ) → length cycle ≡ 512
    → first ≡ written 256 (λ n. get_or coded (cycle_bit (2 * 0 + n)) 0) cycle
    → part ≡ written 256 (λ n. get_or coded (cycle_bit (2 * 128 + n)) 0) (take 256 (drop 256 first))
    → take 256 first ++ (part ++ drop 256 (drop 256 first)) ≡ tabulate 512 (λ q. get_or coded (cycle_bit q) 0)
cycle-filled coded cycle first part long one two =
    written-whole 512 512 _ cycle _
    (two-halves 256 256 (λ q. get_or coded (cycle_bit q) 0) cycle first part (omega arith) (omega arith) one two) refl long

-- ---- runs

-- the lanes from place c on, where lane I carries `bit`, up to the wrap
pub run_lane : (o c bit j m : ℕ) → bit ≡ (c + o) % 256 → bit + m ≤ 256 → j < 2 * m → 2 * bit + j ≡ (2 * o + (2 * c + j)) % 512
run_lane o c bit j m e h l = omega arith

-- the items of symbol s, from n on, go by the lanes of the cycle from twice its offset on, round it
cycle-at : (C : ℕ) (os : List ℕ) (s n j : ℕ) → n ≡ 2 * (s * C) → j < 2 * C → cycle_lane C os (n + j) ≡ (2 * get_or os s 0 + j) % 512
unfolding cycle_lane
cycle-at C os s n j e h =
    let half : (2 * (s * C) + j) / 2 ≡ s * C + j / 2 = omega arith in
    let lane : (2 * (s * C) + j) % 2 ≡ j % 2 = omega arith in
    let place : j / 2 < C = omega arith in
    rw (e, half, lane, digits_div s place, digits_mod s place) (omega arith)

pub cycle-below : (C : ℕ) (os : List ℕ) (n : ℕ) → cycle_lane C os n < 512
unfolding cycle_lane
cycle-below C os n = omega arith

-- an item carries the bit of its lane of the cycle
pub lane-is : (C : ℕ) (os : List ℕ) (n : ℕ) → lane_bit C os n ≡ cycle_bit (cycle_lane C os n)
unfolding lane_bit cycle_bit cycle_lane
lane-is C os n = halves (n / 2 % C + get_or os (n / 2 / C) 0) (n % 2) (omega arith)
  where
    halves : (x r : ℕ) → r < 2 → (x + 128 * r) % 256 ≡ ((2 * x + r) % 512 / 2 + 128 * ((2 * x + r) % 512 % 2)) % 256
    halves x r h =
        let half : (2 * x + r) % 512 / 2 ≡ x % 256 = omega arith in
        let rest : (2 * x + r) % 512 % 2 ≡ r = omega arith in
        rw (half, rest) (omega arith)

-- where s symbols are begun, of which place c of the last comes next with item n
begun-some : (C s c n : ℕ) → n + 2 * C ≡ 2 * (s * C + c) → c < C → 0 < s
begun-some C s c n e h =
    lt-cases s 1
    (λ l. let none : s ≡ 0 = omega arith in absurd (omega (arith, e, ap (λ (x : ℕ). x * C) none)))
    (λ l. l)

pub begun-at : (C s c n : ℕ) → n + 2 * C ≡ 2 * (s * C + c) → c < C → n ≡ 2 * ((s - 1) * C + c)
begun-at C s c n e h =
    let some = begun-some C s c n e h in
    let last : s ≡ s - 1 + 1 = omega (arith, some) in
    omega (arith, e, ap (λ (x : ℕ). x * C) last, row_next (s - 1) C)

-- the run from place c of symbol s on, with item n, where lane I carries bit b: up to the end of its symbol, or to the wrap
module _ (C : ℕ) (os : List ℕ) (s c n : ℕ) (at : n ≡ 2 * (s * C + c)) (inside : c ≤ C - 1) (more : n < item_count C os) where
  below : s * C + c < length os * C
  unfolding item_count carrier_count
  below = omega (arith, at, more)

  pub run-place : c < C
  run-place = omega (arith, lt_of_mul-lt-mul_left (length os) {m = 0} {n = C} (omega (arith, below)))

  pub run-symbol : s < length os
  run-symbol = lt_of_mul-lt-mul_right C (omega (arith, below))

  pub run-is : (b m : ℕ) → b ≡ (c + get_or os s 0) % 256 → m ≡ min (C - c) (256 - b) → IsRun C os n (2 * b) (2 * m)
  unfolding item_count carrier_count
  run-is b m e r =
      record {
        some = omega (arith, run-place);
        within = omega (arith, at, run-place, row_within s C (length os) run-symbol);
        one_symbol = rw (from-symbol) (omega arith);
        on_cycle = omega arith;
        in_row = λ j l.
            rw (there j)
            (cycle-at C os s (2 * (s * C)) (2 * c + j) refl (omega (arith, run-place))
            ∙ sym (run_lane (get_or os s 0) c b j m e (omega arith) l));
      }
    where
      from-symbol : n % (2 * C) ≡ 2 * c
      from-symbol =
          let row : n ≡ s * (2 * C) + 2 * c = omega (arith, at) in
          rw row (digits_mod s (omega (arith, run-place)))

      there : (j : ℕ) → n + j ≡ 2 * (s * C) + (2 * c + j)
      there j = omega (arith, at)

-- the copies of a run are put behind those before it
module _ (C : ℕ) (os coded : List ℕ) where
  abbrev copy : ℕ → ℕ
  copy k = get_or coded (lane_bit C os k) 0

  pub run-put : (cycle out now part : List ℕ) (n q m : ℕ) → q + m ≤ 512 → ((j : ℕ) → j < m → cycle_lane C os (n + j) ≡ q + j)
      → cycle ≡ tabulate 512 (λ q. get_or coded (cycle_bit q) 0) → part ≡ take (q + m - q) (drop q cycle) → now ≡ written n copy out
      → take n now ++ (part ++ drop (n + m - n) (drop n now)) ≡ written (n + m) copy out
  unfolding written
  run-put cycle out now part n q m on-cycle in-row full p e =
      rw (width n, p, width q, e, take-written n copy out, drop_at (tabulate n copy) (drop n out) n (length-tabulate n copy), drop-drop m n out, copies, tabulate-append n m copy)
      (sym (append_assoc (tabulate n copy) (tabulate m (λ j. copy (n + j))) (drop (n + m) out)))
    where
      width : (a : ℕ) → a + m - a ≡ m
      width a = omega arith

      copies : take m (drop q cycle) ≡ tabulate m (λ j. copy (n + j))
      copies =
          tabulate-of m _ 0 (take m (drop q cycle)) (rw full (simp (length-take, length-drop, length-tabulate) (omega (arith, on-cycle))))
          (λ j l.
          get_or-take m (drop q cycle) j 0 l ∙ get_or-drop q cycle j 0
          ∙ rw (full, lane-is C os (n + j), in-row j l) (get_or-tabulate 512 _ (q + j) 0 (omega (arith, on-cycle))))
