-- The shapes of the table are sound and small, and how many coded bits they have. Assumes nothing.
use mathlib.Core.Path.{◌≡◌, refl, ap}
use mathlib.Core.Bool.{false}
use Prim.Native.Nat.{ℕ, zero, suc, ◌+◌, ◌*◌, ◌/◌, ◌<◌, ◌≤◌}
use native.Mathlib.Nat.{le_of_suc-le-suc}
use native.Mathlib.Omega.{arith}
use lib.Dec.{T, eqb, ltb, ltb→lt, leb, leb→le}
use lib.ListN.{get_or}
use borrow.Author.Tests.{eqb-true, eqb-false}
use Rattle.bits.specs.Ranges.{all_below}
use Rattle.bits.proofs.NumberLaws.{lt-cases}
use Rattle.bits.proofs.RangeLaws.{at_each, at-each₂, agree, agree₂, under, under₂}
use Rattle.card.specs.Modes.{block_bytes, Defined}
use Rattle.interleaver_shape.specs.declared.Shape.{Shape}
use Rattle.interleaver_shape.specs.Shapes.{coded_of, coded_bits, offsets, steps, groups, leads, shape_of}
use Rattle.interleaver_shape.specs.Loops.Bounds.{Sound, Small, Near, Paired}

pub rows_in : (kind : ℕ) → kind < 5 → block_bytes kind * 2 < 65536
rows_in = under 5 65536 (λ k. block_bytes k * 2) tt

module _ (kind rate : ℕ) (D : Defined kind rate) where
  -- its row of the table
  row_lt : kind + rate < 6
  row_lt = omega arith

  pub group-in : zero < get_or groups rate 0
  group-in = ltb→lt 0 (get_or groups rate 0) (at_each 2 (λ r. ltb 0 (get_or groups r 0)) tt rate D.rate-lt)

  pub sound-of : Sound (shape_of kind rate)
  sound-of =
      record {
        step-pos = ltb→lt 0 (get_or steps (kind + rate) 0) (at_each 6 (λ m. ltb 0 (get_or steps m 0)) tt (kind + rate) row_lt);
        group-pos = group-in;
        lead-le = leb→le (get_or leads rate 0) (get_or groups rate 0) (at_each 2 (λ r. leb (get_or leads r 0) (get_or groups r 0)) tt rate D.rate-lt);
        rows_are = agree₂ 5 2 (λ k r. block_bytes k * 2) (λ k r. block_bytes k * 2 / get_or groups r 0 * get_or groups r 0) tt kind rate D.kind-lt D.rate-lt;
        continuous-ok = λ e. let r = eqb-true rate 1 e in let k = D.high-rate r in (71, 6, rw (r, k));
      }

  pub small_of : Small (shape_of kind rate)
  small_of =
      record {
        rows-lt = rows_in kind D.kind-lt;
        parity-lt = under₂ 5 2 65536 (λ k r. block_bytes k * 2 / get_or groups r 0) tt kind rate D.kind-lt D.rate-lt;
        step-lt = under 6 65536 (λ m. get_or steps m 0) tt (kind + rate) row_lt;
        offset-lt = under 6 65536 (λ m. get_or offsets m 0) tt (kind + rate) row_lt;
        group-lt = under 2 65536 (λ r. get_or groups r 0) tt rate D.rate-lt;
      }

pub near_of : (kind rate : ℕ) → Defined kind rate → Near (shape_of kind rate)
near_of kind rate D =
    record {
      step-le = within (λ k r. get_or steps (k + r) 0) tt tt;
      offset-lt = within (λ k r. suc (get_or offsets (k + r) 0)) tt tt;
    }
  where
    within : (f : ℕ → ℕ → ℕ) → T (all_below 5 (λ k. leb (f k 0) (block_bytes k * 2 / 1))) → T (leb (f 4 1) 130)
        → f kind rate ≤ block_bytes kind * 2 / get_or groups rate 0
    within f t u =
        lt-cases rate 1
        (λ h.
        let r : rate ≡ 0 = omega arith in
        rw r (leb→le (f kind 0) (block_bytes kind * 2 / 1) (at_each 5 (λ k. leb (f k 0) (block_bytes k * 2 / 1)) t kind D.kind-lt)))
        (λ h. let r : rate ≡ 1 = omega arith in let k = D.high-rate r in rw (r, k) (leb→le (f 4 1) 130 u))

pub paired-of : (kind rate : ℕ) → Defined kind rate → eqb rate 1 ≡ false → Paired (shape_of kind rate)
paired-of kind rate D t =
    let apart = eqb-false rate 1 t in
    let r : rate ≡ 0 = omega (arith, D.rate-lt) in
    record { group-is = rw r; lead_is = rw r; in-passes = t }

pub coded-is : (kind rate : ℕ) (L : Shape) → L ≡ shape_of kind rate → coded_of L ≡ coded_bits kind rate
unfolding coded_bits
coded-is kind rate L e = ap coded_of e

-- at rate 1/2 a byte of the block makes 16 coded bits; at 16/18 the 520 bytes make 4,680
pub coded-half : (kind : ℕ) → kind < 5 → coded_bits kind 0 ≡ block_bytes kind * 16
unfolding coded_bits
coded-half kind h = agree 5 (λ k. (block_bytes k * 2 + block_bytes k * 2 / 1) * 4) (λ k. block_bytes k * 16) tt kind h

pub coded-high : coded_bits 4 1 ≡ 4680
unfolding coded_bits
coded-high = refl

pub coded-le : (kind rate : ℕ) → Defined kind rate → coded_bits kind rate ≤ 8320
unfolding coded_bits
coded-le kind rate D =
    le_of_suc-le-suc
    (under₂ 5 2 8321 (λ k r. (block_bytes k * 2 + block_bytes k * 2 / get_or groups r 0) * 4) tt kind rate D.kind-lt D.rate-lt)

-- every block has some
pub coded-some : (kind rate : ℕ) → Defined kind rate → zero < coded_bits kind rate
unfolding coded_bits
coded-some kind rate D =
    ltb→lt 0 ((block_bytes kind * 2 + block_bytes kind * 2 / get_or groups rate 0) * 4)
    (at-each₂ 5 2 (λ k r. ltb 0 ((block_bytes k * 2 + block_bytes k * 2 / get_or groups r 0) * 4)) tt kind rate D.kind-lt D.rate-lt)
