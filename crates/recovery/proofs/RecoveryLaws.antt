-- Laws of recovery: clean coded bits come back, an undecided bit refuses, and only the block's coded bits count. Assumes nothing.
use mathlib.Core.Path.{◌≡◌, sym, ap, ap₂, ◌∙◌}
use mathlib.Core.Bool.{false, not}
use mathlib.Core.List.{List, ◌++◌}
use Prim.Native.Nat.{ℕ, ◌+◌, ◌≤◌, ◌<◌}
use native.Mathlib.Omega.{arith}
use lib.Dec.{eqb, ltb}
use lib.ListN.{drop}
use borrow.Author.Tests.{ltb-false, lt-ltb, le-ltb, eq-eqb}
use Rattle.bits.specs.Bits.{bytes_of}
use Rattle.bits.proofs.BitLaws.{Binary, same_bits}
use Rattle.bits.proofs.ListLaws.{lowest-none, lowest-below, lowest-up-to, lowest-ext}
use Rattle.bits.proofs.SumLaws.{count_none, count-ext}
use Rattle.refusal.specs.declared.Refusal.TheVariants.{Majority, Parity}
use Rattle.refusal.specs.Report.{done, refusal}
use Rattle.refusal.specs.Outcome.{Row, in_order, row_order, outcome}
use Rattle.refusal.proofs.OutcomeLaws.{NoneApplies, outcome-good}
use Rattle.card.specs.Modes.{block_bytes, Defined}
use Rattle.turbo.specs.Puncture.{kept_count}
use Rattle.turbo.specs.Parity.{kept_bit}
use Rattle.turbo.proofs.ParityLaws.{kept-ext}
use Rattle.interleaver_shape.specs.Shapes.{coded_bits}
use Rattle.interleaver.specs.Source.{coded_at}
use Rattle.interleaver.proofs.InterleaverLaws.{coded-lt, source-coded}
use Rattle.fec.specs.Coding.{data_bits, source_bit, coded_bit}
use Rattle.fec.proofs.CodingLaws.{source-data, source-parity, coded-count, coded-binary}
use Rattle.recovery.specs.Recovery.{data_bit, parity_bit, first_undecided, disagreeing, recover_rows, recovered}

-- ---- the three cases

-- no row applies where every bit is decided and all parity agrees
pub none-applies : (kind rate taps : ℕ) (e : ℕ → ℕ) → coded_bits kind rate ≤ first_undecided kind rate e → disagreeing kind rate taps e ≡ 0
    → NoneApplies (in_order row_order (recover_rows kind rate taps e))
none-applies kind rate taps e h p =
    (le-ltb (first_undecided kind rate e) (coded_bits kind rate) h, (le-ltb 0 (disagreeing kind rate taps e) (omega arith), tt))

module _ (kind rate taps : ℕ) (e : ℕ → ℕ) (out : List ℕ) where
  pub refused-majority : first_undecided kind rate e < coded_bits kind rate
      → recovered kind rate taps e out ≡ record { report = refusal (Majority (first_undecided kind rate e)); out = out }
  unfolding recovered
  refused-majority h = rw (lt-ltb (first_undecided kind rate e) (coded_bits kind rate) h)

  pub refused-parity : coded_bits kind rate ≤ first_undecided kind rate e → 0 < disagreeing kind rate taps e
      → recovered kind rate taps e out ≡ record { report = refusal (Parity (disagreeing kind rate taps e)); out = out }
  unfolding recovered
  refused-parity h p = rw (le-ltb (first_undecided kind rate e) (coded_bits kind rate) h, lt-ltb 0 (disagreeing kind rate taps e) p)

  pub recovered-good : coded_bits kind rate ≤ first_undecided kind rate e → disagreeing kind rate taps e ≡ 0
      → recovered kind rate taps e out
      ≡ record { report = done (block_bytes kind); out = bytes_of (block_bytes kind) (data_bit kind rate e) ++ drop (block_bytes kind) out }
  unfolding recovered
  recovered-good h p =
      outcome-good (recover_rows kind rate taps e) out (block_bytes kind) (bytes_of (block_bytes kind) (data_bit kind rate e) ++ drop (block_bytes kind) out)
      (none-applies kind rate taps e h p)

-- ---- clean return

module _ (kind rate : ℕ) (D : Defined kind rate) (taps : ℕ) (d : ℕ → ℕ) (binary : Binary (data_bits kind) d)
    (e : ℕ → ℕ) (clean : (i : ℕ) → i < coded_bits kind rate → e i ≡ coded_bit kind rate taps d i) where
  -- source bit s is read where the interleaver put it
  read-source : (s : ℕ) → s < coded_bits kind rate → e (coded_at kind rate s) ≡ source_bit kind rate taps d s
  unfolding coded_bit
  read-source s h = clean (coded_at kind rate s) (coded-lt kind rate D s h) ∙ ap (source_bit kind rate taps d) (source-coded kind rate D s h)

  pub clean-data : (k : ℕ) → k < data_bits kind → data_bit kind rate e k ≡ d k
  unfolding data_bit
  clean-data k h = read-source k (omega (arith, coded-count kind rate D)) ∙ source-data kind rate taps d k h

  pub clean-parity : (i : ℕ) → i < kept_count kind rate → parity_bit kind rate e i ≡ kept_bit kind rate taps d i
  unfolding parity_bit
  clean-parity i h = read-source (data_bits kind + i) (omega (arith, coded-count kind rate D)) ∙ source-parity kind rate taps d i

  pub clean-decided : first_undecided kind rate e ≡ coded_bits kind rate
  unfolding first_undecided
  clean-decided =
      lowest-none (coded_bits kind rate) (λ i. ltb 1 (e i)) (λ i h. le-ltb 1 (e i) (omega (arith, clean i h, coded-binary kind rate D taps d binary i)))

  pub clean-agrees : disagreeing kind rate taps e ≡ 0
  unfolding disagreeing
  clean-agrees = count_none (kept_count kind rate) (λ i. not (eqb (kept_bit kind rate taps (data_bit kind rate e) i) (parity_bit kind rate e i))) agree
    where
      agree : (i : ℕ) → i < kept_count kind rate → not (eqb (kept_bit kind rate taps (data_bit kind rate e) i) (parity_bit kind rate e i)) ≡ false
      agree i h =
          ap not
          (eq-eqb (kept_bit kind rate taps (data_bit kind rate e) i) (parity_bit kind rate e i)
          (kept-ext kind D.kind-lt (data_bit kind rate e) d clean-data rate taps i h ∙ sym (clean-parity i h)))

  -- no row applies to clean coded bits
  pub clean-rows : NoneApplies (in_order row_order (recover_rows kind rate taps e))
  clean-rows = none-applies kind rate taps e (omega (arith, clean-decided)) clean-agrees

  -- and the block comes back
  pub clean-return : (out : List ℕ)
      → recovered kind rate taps e out ≡ record { report = done (block_bytes kind); out = bytes_of (block_bytes kind) d ++ drop (block_bytes kind) out }
  clean-return out =
      recovered-good kind rate taps e out (omega (arith, clean-decided)) clean-agrees
      ∙ ap (λ (l : List ℕ). record { report = done (block_bytes kind); out = l ++ drop (block_bytes kind) out })
      (same_bits (block_bytes kind) (data_bit kind rate e) d clean-data)

-- ---- an undecided bit

module _ (kind rate : ℕ) (e : ℕ → ℕ) (b : ℕ) (undecided : 1 < e b) where
  -- refusal 7 names no higher bit
  pub undecided-le : first_undecided kind rate e ≤ b
  unfolding first_undecided
  undecided-le = lowest-up-to (coded_bits kind rate) (λ i. ltb 1 (e i)) b (lt-ltb 1 (e b) undecided)

-- where none is undecided every coded bit is a bit
pub all-decided : (kind rate : ℕ) (e : ℕ → ℕ) → coded_bits kind rate ≤ first_undecided kind rate e → Binary (coded_bits kind rate) e
unfolding first_undecided
all-decided kind rate e h i l =
    let z : e i ≤ 1 = ltb-false 1 (e i) (lowest-below (coded_bits kind rate) (λ k. ltb 1 (e k)) i (omega arith)) in
    omega arith

-- ---- only the coded bits of the block count

module _ (kind rate : ℕ) (D : Defined kind rate) (e f : ℕ → ℕ) (same : (i : ℕ) → i < coded_bits kind rate → e i ≡ f i) where
  pub data-ext : (k : ℕ) → k < data_bits kind → data_bit kind rate e k ≡ data_bit kind rate f k
  unfolding data_bit
  data-ext k h = same (coded_at kind rate k) (coded-lt kind rate D k (omega (arith, coded-count kind rate D)))

  pub parity-ext : (i : ℕ) → i < kept_count kind rate → parity_bit kind rate e i ≡ parity_bit kind rate f i
  unfolding parity_bit
  parity-ext i h = same (coded_at kind rate (data_bits kind + i)) (coded-lt kind rate D (data_bits kind + i) (omega (arith, coded-count kind rate D)))

  pub undecided-ext : first_undecided kind rate e ≡ first_undecided kind rate f
  unfolding first_undecided
  undecided-ext = lowest-ext (coded_bits kind rate) (λ i. ltb 1 (e i)) (λ i. ltb 1 (f i)) (λ i h. ap (ltb 1) (same i h))

  pub disagreeing-ext : (taps : ℕ) → disagreeing kind rate taps e ≡ disagreeing kind rate taps f
  unfolding disagreeing
  disagreeing-ext taps =
      count-ext (kept_count kind rate)
      (λ i. not (eqb (kept_bit kind rate taps (data_bit kind rate e) i) (parity_bit kind rate e i)))
      (λ i. not (eqb (kept_bit kind rate taps (data_bit kind rate f) i) (parity_bit kind rate f i)))
      (λ i h.
      ap₂ (λ (x y : ℕ). not (eqb x y)) (kept-ext kind D.kind-lt (data_bit kind rate e) (data_bit kind rate f) data-ext rate taps i h) (parity-ext i h))

  pub rows_ext : (taps : ℕ) → recover_rows kind rate taps e ≡ recover_rows kind rate taps f
  rows_ext taps = rw (undecided-ext, disagreeing-ext taps)

  pub recovered-ext : (taps : ℕ) (out : List ℕ) → recovered kind rate taps e out ≡ recovered kind rate taps f out
  unfolding recovered
  recovered-ext taps out =
      ap₂ (λ (rows : List Row) (l : List ℕ). outcome rows out (block_bytes kind) (l ++ drop (block_bytes kind) out)) (rows_ext taps)
      (same_bits (block_bytes kind) (data_bit kind rate e) (data_bit kind rate f) data-ext)
