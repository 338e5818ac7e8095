-- Pass one over a folded list: an encoder without input is back after seven steps, so what stands 56 bytes apart adds up. Assumes nothing.
use mathlib.Core.Path.{◌≡◌, refl, sym, ap, ap₂, ◌∙◌}
use mathlib.Core.List.{List}
use Prim.Native.Nat.{ℕ, zero, suc, ◌+◌, ◌-◌, ◌*◌, ◌/◌, ◌%◌, ◌^◌, ◌≤◌, ◌<◌}
use native.Mathlib.Nat.{zero-div, add-suc, add-zero}
use native.Mathlib.Omega.{arith}
use lib.Bits.{bit_xor, xor_zero_l}
use lib.Dec.{lit<}
use lib.ListN.{length, get_or, take, drop, replicate, length-take, length-drop, length-replicate, get_or-eq_default}
use lib.Seq.{length-take-le, get_or-take, get_or-drop}
use Rattle.bits.specs.Bits.{bit_of}
use Rattle.bits.specs.Lists.{written}
use Rattle.bits.proofs.ListLaws.{length-written, get_or-written, get_or-kept}
use Rattle.bits.proofs.NumberLaws.{lt-cases}
use Rattle.bits.proofs.RangeLaws.{agree}
use Rattle.constituent.specs.declared.States.{States}
use Rattle.constituent.specs.Pairs.{pair_at}
use Rattle.constituent.specs.Encoder.{zero_input_step, state_at}
use Rattle.constituent.specs.Loops.Passes.{state_by, Ended, SameEnd}
use Rattle.constituent.proofs.StateLaws.{state-lt, state-ext}
use Rattle.constituent.proofs.RingLaws.{steps, steps-lt, idle, state-plus}
use Rattle.constituent.proofs.PairLaws.{pair_read}
use Rattle.constituent.proofs.LinearLaws.{in-sums, state-linear}
use Rattle.constituent.proofs.ByteLaws.{state-append}

-- ---- without input

-- seven steps without input, from each state
seven : (s : ℕ) → s < 8 → steps 7 s ≡ s
unfolding steps zero_input_step
seven = agree 8 (steps 7) (λ s. s) tt

steps-append : (m n s : ℕ) → steps (m + n) s ≡ steps n (steps m s)
unfolding steps
steps-append m zero s = rw add-zero
steps-append m (suc n) s = rw add-suc (ap zero_input_step (steps-append m n s))

rounds : (q s : ℕ) → s < 8 → steps (q * 7) s ≡ s
unfolding steps
rounds zero s h = refl
rounds (suc q) s h =
    let e : suc q * 7 ≡ q * 7 + 7 = omega arith in
    ap (λ (n : ℕ). steps n s) e ∙ steps-append (q * 7) 7 s ∙ ap (steps 7) (rounds q s h) ∙ seven s h

more-rounds : (m q s : ℕ) → s < 8 → steps (m + q * 7) s ≡ steps m s
more-rounds m q s h = steps-append m (q * 7) s ∙ rounds q (steps m s) (steps-lt m s h)

-- ---- bytes

-- the pairs of a byte that is zero
zero-pair : (bytes : List ℕ) (t : ℕ) → get_or bytes (t / 4) 0 ≡ 0 → pair_at (bit_of bytes) t ≡ 0
zero-pair bytes t e = sym (pair_read bytes t) ∙ ap (λ (b : ℕ). b / 2 ^ (6 - 2 * (t % 4)) % 4) e ∙ ap (λ (b : ℕ). b % 4) (zero-div (2 ^ (6 - 2 * (t % 4))))

-- after zeros only the free steps are left
tail : (taps : ℕ) (bytes : List ℕ) (n m : ℕ) → ((k : ℕ) → n ≤ k → get_or bytes k 0 ≡ 0) → state_by taps bytes 0 (4 * (n + m)) ≡ steps (4 * m) (state_by taps bytes 0 (4 * n))
tail taps bytes n m h =
    let e : 4 * (n + m) ≡ 4 * n + 4 * m = omega arith in
    ap (state_by taps bytes 0) e
    ∙ state-append taps (pair_at (bit_of bytes)) 0 (4 * n) (4 * m)
    ∙ idle taps (λ j. pair_at (bit_of bytes) (4 * n + j)) (state_by taps bytes 0 (4 * n)) (4 * m) (λ k l. zero-pair bytes (4 * n + k) (h ((4 * n + k) / 4) (omega arith)))

-- w bytes more, from `at` on, are added to the sums: `end` bytes of the sums lead to where at + w of the bytes do
module _ (taps at w end : ℕ) (bytes sums chunk next : List ℕ) (start : state_by taps sums 0 (4 * 56) ≡ state_by taps bytes 0 (4 * at))
    (short : (k : ℕ) → 56 ≤ k → get_or sums k 0 ≡ 0) (part : (k : ℕ) → k < w → get_or chunk k 0 ≡ get_or bytes (at + k) 0)
    (over : (k : ℕ) → w ≤ k → get_or chunk k 0 ≡ 0) (added : (k : ℕ) → get_or next k 0 ≡ bit_xor (get_or chunk k 0) (get_or sums k 0))
    (he : 56 ≤ end) (q : ℕ) (hq : q ≤ 8) (near : end ≡ w + q * 7) where
  -- where the bytes before lead
  abbrev so_far : ℕ
  so_far = state_by taps bytes 0 (4 * at)

  far_lt : so_far < 8
  far_lt = state-lt taps (pair_at (bit_of bytes)) 0 (lit< tt) (4 * at)

  sum-pairs : (t : ℕ) → pair_at (bit_of next) t ≡ bit_xor (pair_at (bit_of chunk) t) (pair_at (bit_of sums) t)
  sum-pairs t =
      sym (pair_read next t)
      ∙ ap (λ (b : ℕ). b / 2 ^ (6 - 2 * (t % 4)) % 4) (added (t / 4))
      ∙ in-sums (get_or chunk (t / 4) 0) (get_or sums (t / 4) 0) (t % 4)
      ∙ ap₂ bit_xor (pair_read chunk t) (pair_read sums t)

  chunk_end : state_by taps chunk 0 (4 * end) ≡ state_by taps chunk 0 (4 * w)
  chunk_end =
      let e : 4 * (q * 7) ≡ 4 * q * 7 = omega arith in
      ap (λ (k : ℕ). state_by taps chunk 0 (4 * k)) near
      ∙ tail taps chunk w (q * 7) over
      ∙ ap (λ (k : ℕ). steps k (state_by taps chunk 0 (4 * w))) e
      ∙ rounds (4 * q) (state_by taps chunk 0 (4 * w)) (state-lt taps (pair_at (bit_of chunk)) 0 (lit< tt) (4 * w))

  sums-end : state_by taps sums 0 (4 * end) ≡ steps (4 * w) so_far
  sums-end =
      let e : end ≡ 56 + (end - 56) = omega arith in
      let d : 4 * w ≡ 4 * (end - 56) + 4 * (8 - q) * 7 = omega arith in
      ap (λ (k : ℕ). state_by taps sums 0 (4 * k)) e
      ∙ tail taps sums 56 (end - 56) short
      ∙ ap (steps (4 * (end - 56))) start
      ∙ sym (ap (λ (k : ℕ). steps k so_far) d ∙ more-rounds (4 * (end - 56)) (4 * (8 - q)) so_far far_lt)

  bytes-end : state_by taps bytes 0 (4 * (at + w)) ≡ bit_xor (state_by taps chunk 0 (4 * w)) (steps (4 * w) so_far)
  bytes-end =
      let e : 4 * (at + w) ≡ 4 * at + 4 * w = omega arith in
      ap (state_by taps bytes 0) e
      ∙ state-append taps (pair_at (bit_of bytes)) 0 (4 * at) (4 * w)
      ∙ state-ext taps (λ j. pair_at (bit_of bytes) (4 * at + j)) (pair_at (bit_of chunk)) so_far (4 * w) same
      ∙ ap (λ (s : ℕ). state_at taps (pair_at (bit_of chunk)) s (4 * w)) (sym (xor_zero_l so_far))
      ∙ state-plus taps (pair_at (bit_of chunk)) 0 so_far (lit< tt) far_lt (4 * w)
    where
      same : (k : ℕ) → k < 4 * w → pair_at (bit_of bytes) (4 * at + k) ≡ pair_at (bit_of chunk) k
      same k l =
          let a : (4 * at + k) / 4 ≡ at + k / 4 = omega arith in
          let b : (4 * at + k) % 4 ≡ k % 4 = omega arith in
          sym (pair_read bytes (4 * at + k))
          ∙ ap₂ (λ (i j : ℕ). get_or bytes i 0 / 2 ^ (6 - 2 * j) % 4) a b
          ∙ ap (λ (c : ℕ). c / 2 ^ (6 - 2 * (k % 4)) % 4) (sym (part (k / 4) (omega arith)))
          ∙ pair_read chunk k

  pub folded : state_by taps next 0 (4 * end) ≡ state_by taps bytes 0 (4 * (at + w))
  folded =
      state-linear taps (pair_at (bit_of chunk)) (pair_at (bit_of sums)) (pair_at (bit_of next)) sum-pairs 0 0 (lit< tt) (lit< tt) (4 * end)
      ∙ ap₂ bit_xor chunk_end sums-end
      ∙ sym bytes-end

-- ---- the loop

-- 56 sums lead every encoder to where the bytes before `at`, a multiple of seven, lead it, and zeros follow them
pub record Folded (bytes : List ℕ) (at : ℕ) (sums : List ℕ) : Type 0 where
  pub sevens : at % 7 ≡ 0
  pub long : length sums ≡ 63
  pub short : (k : ℕ) → 56 ≤ k → get_or sums k 0 ≡ 0
  pub same : (taps : ℕ) → state_by taps sums 0 (4 * 56) ≡ state_by taps bytes 0 (4 * at)

zero-at : (n k : ℕ) → ◌≡◌ {A = ℕ} (get_or (replicate n 0) k 0) 0
zero-at zero k = refl
zero-at (suc n) zero = refl
zero-at (suc n) (suc k) = zero-at n k

pub folded-none : (bytes sums : List ℕ) → sums ≡ replicate 63 0 → Folded bytes 0 sums
unfolding state_at
folded-none bytes sums e =
    record {
      sevens = refl;
      long = ap length e ∙ length-replicate {A = ℕ} 63 0;
      short = λ k h. zeros k;
      same = λ taps. idle taps (pair_at (bit_of sums)) 0 (4 * 56) (λ k l. zero-pair sums k (zeros (k / 4))) ∙ rounds 32 0 (lit< tt);
    }
  where
    zeros : (k : ℕ) → get_or sums k 0 ≡ 0
    zeros k = ap (λ (l : List ℕ). get_or l k 0) e ∙ zero-at 63 k

module _ (bytes sums chunk next : List ℕ) (at w : ℕ) (F : Folded bytes at sums) (e : chunk ≡ take w (drop at bytes)) (inside : at + w ≤ length bytes)
    (few : w ≤ 56) (added : next ≡ written (length chunk) (λ k. bit_xor (get_or chunk k 0) (get_or sums k 0)) sums) where
  chunk-long : length chunk ≡ w
  chunk-long = ap length e ∙ simp (length-take, length-drop) (omega arith)

  part : (k : ℕ) → k < w → get_or chunk k 0 ≡ get_or bytes (at + k) 0
  part k l = ap (λ (c : List ℕ). get_or c k 0) e ∙ get_or-take w (drop at bytes) k 0 l ∙ get_or-drop at bytes k 0

  over : (k : ℕ) → w ≤ k → get_or chunk k 0 ≡ 0
  over k l = get_or-eq_default chunk 0 (omega (arith, chunk-long))

  room : length chunk ≤ length sums
  room = omega (arith, chunk-long, F.long)

  sum-at : (k : ℕ) → get_or next k 0 ≡ bit_xor (get_or chunk k 0) (get_or sums k 0)
  sum-at k =
      lt-cases k (length chunk)
      (λ l. ap (λ (n : List ℕ). get_or n k 0) added ∙ get_or-written (length chunk) _ sums k 0 l)
      (λ l. ap (λ (n : List ℕ). get_or n k 0) added ∙ get_or-kept (length chunk) _ sums k 0 l ∙ sym (ap (λ (b : ℕ). bit_xor b (get_or sums k 0)) (over k (omega (arith, chunk-long))) ∙ xor_zero_l (get_or sums k 0)))

  next-long : length next ≡ 63
  next-long = ap length added ∙ length-written (length chunk) _ sums room ∙ F.long

  next-short : (k : ℕ) → 56 ≤ k → get_or next k 0 ≡ 0
  next-short k h = sum-at k ∙ ap₂ bit_xor (over k (omega arith)) (F.short k h)

  pub folded-next : w ≡ 56 → Folded bytes (at + w) next
  folded-next h =
      record {
        sevens = omega (arith, F.sevens);
        long = next-long;
        short = next-short;
        same = λ taps. folded taps at w 56 bytes sums chunk next (F.same taps) F.short part over sum-at (omega arith) 0 (omega arith) (omega arith);
      }

  pub folded-all : at + w ≡ length bytes → SameEnd bytes next
  folded-all h =
      record {
        long = next-long;
        same = λ taps.
            let r : length bytes % 7 ≡ w % 7 = omega (arith, F.sevens) in
            let z : 4 * (at + w) ≡ 4 * length bytes = omega arith in
            ap (λ (k : ℕ). state_by taps next 0 (4 * (56 + k))) r
            ∙ folded taps at w (56 + w % 7) bytes sums chunk next (F.same taps) F.short part over sum-at (omega arith) (8 - w / 7) (omega arith) (omega arith)
            ∙ ap (state_by taps bytes 0) z;
      }

-- ---- pass one over the folded lists

-- a walk over the first n bytes asks for no others
prefix-end : (taps n : ℕ) (l : List ℕ) → state_by taps (take n l) 0 (4 * n) ≡ state_by taps l 0 (4 * n)
prefix-end taps n l =
    state-ext taps (pair_at (bit_of (take n l))) (pair_at (bit_of l)) 0 (4 * n) (λ k h.
    let b : k / 4 < n = omega arith in
    sym (pair_read (take n l) k) ∙ ap (λ (x : ℕ). x / 2 ^ (6 - 2 * (k % 4)) % 4) (get_or-take n l (k / 4) 0 b) ∙ pair_read l k)

-- one list's end from that of its sums
end_of : (taps n : ℕ) (bytes sums : List ℕ) → SameEnd bytes sums → length bytes ≡ n
    → state_by taps (take (56 + n % 7) sums) 0 (4 * (56 + n % 7)) ≡ state_by taps bytes 0 (4 * n)
end_of taps n bytes sums S e =
    prefix-end taps (56 + n % 7) sums
    ∙ ap (λ (k : ℕ). state_by taps sums 0 (4 * (56 + k % 7))) (sym e)
    ∙ S.same taps
    ∙ ap (λ (k : ℕ). state_by taps bytes 0 (4 * k)) e

pub ended-folded : (taps n : ℕ) (bytes second first other : List ℕ) (s : States) → length bytes ≡ n → n ≤ length second → SameEnd bytes first
    → SameEnd (take n second) other → Ended taps (take (56 + n % 7) first) (take (56 + n % 7) other) (length (take (56 + n % 7) first)) s → Ended taps bytes second n s
ended-folded taps n bytes second first other s e h F O E =
    let l : length (take (56 + n % 7) first) ≡ 56 + n % 7 = length-take-le (56 + n % 7) first (omega (arith, F.long)) in
    let m : length (take n second) ≡ n = length-take-le n second h in
    record {
      one = E.one ∙ ap (λ (k : ℕ). state_by taps (take (56 + n % 7) first) 0 (4 * k)) l ∙ end_of taps n bytes first F e;
      two =
          E.two ∙ ap (λ (k : ℕ). state_by taps (take (56 + n % 7) other) 0 (4 * k)) l ∙ end_of taps n (take n second) other O m
          ∙ prefix-end taps n second;
    }
