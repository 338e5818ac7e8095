-- What the buffers of `recover` hold: the bytes of the data bits and of the parity bits as they were decided. Assumes nothing.
use mathlib.Core.Path.{◌≡◌, refl, ap, ap₂, ◌∙◌}
use mathlib.Core.Bool.{not}
use mathlib.Core.List.{List, ◌++◌}
use Prim.Native.Nat.{ℕ, ◌+◌, ◌*◌, ◌/◌, ◌≤◌, ◌<◌}
use native.Mathlib.Omega.{arith}
use lib.Dec.{eqb, ltb}
use lib.ListN.{length, get_or, take, drop, length-take}
use Rattle.bits.specs.Bits.{bit_of, byte_of, bytes_of}
use Rattle.bits.specs.Lists.{written, lowest, first_above}
use Rattle.bits.specs.Sums.{count}
use Rattle.bits.proofs.BitLaws.{Binary, bits-bytes, length-bytes}
use Rattle.bits.proofs.ListLaws.{take-written}
use Rattle.bits.proofs.SumLaws.{count-ext}
use Rattle.card.specs.Modes.{block_bytes, Defined}
use Rattle.turbo.specs.Puncture.{kept_count}
use Rattle.turbo.specs.Parity.{kept_bit}
use Rattle.turbo.proofs.ParityLaws.{kept-ext}
use Rattle.interleaver_shape.specs.Shapes.{coded_bits}
use Rattle.interleaver.specs.Source.{coded_at}
use Rattle.interleaver.proofs.InterleaverLaws.{coded-lt}
use Rattle.fec.specs.Coding.{data_bits}
use Rattle.fec.proofs.CodingLaws.{coded-count}
use Rattle.fec.proofs.RowLaws.{kept-bytes}
use Rattle.recovery.specs.Recovery.{data_bit, parity_bit, first_undecided, disagreeing}
use Rattle.recovery.proofs.RecoveryLaws.{all-decided}

-- the elements of a list as bits
abbrev pub decided_at : List ℕ → ℕ → ℕ
decided_at decided i = get_or decided i 0

-- the search over the decided bits
pub first-is : (kind rate : ℕ) (decided : List ℕ) → length decided ≡ coded_bits kind rate → first_above 1 decided ≡ first_undecided kind rate (decided_at decided)
unfolding first_above first_undecided
first-is kind rate decided whole = ap (λ (n : ℕ). lowest n (λ i. ltb 1 (get_or decided i 0))) whole

module _ (kind rate : ℕ) (decided : List ℕ) (whole : length decided ≡ coded_bits kind rate) (all : length decided ≤ first_above 1 decided) where
  pub none-undecided : coded_bits kind rate ≤ first_undecided kind rate (decided_at decided)
  none-undecided = omega (arith, first-is kind rate decided whole)

  pub decided-binary : Binary (coded_bits kind rate) (decided_at decided)
  decided-binary = all-decided kind rate (decided_at decided) none-undecided

-- a buffer holds n bytes of the bits d
pub record Holds (n : ℕ) (d : ℕ → ℕ) (buffer : List ℕ) : Type 0 where
  pub bytes : take n buffer ≡ bytes_of n d

pub holds : (n : ℕ) (d : ℕ → ℕ) (was buffer : List ℕ) → buffer ≡ written n (byte_of d) was → Holds n d buffer
unfolding bytes_of
holds n d was buffer e = record { bytes = ap (take n) e ∙ take-written n (byte_of d) was }

module _ {n m : ℕ} {d : ℕ → ℕ} {buffer : List ℕ} (size : m ≡ n) (H : Holds n d buffer) where
  pub first-bytes : take m buffer ≡ bytes_of n d
  first-bytes = ap (λ (k : ℕ). take k buffer) size ∙ H.bytes

  pub first-length : length (take m buffer) ≡ n
  first-length = ap length first-bytes ∙ length-bytes n d

  pub first_fits : m ≤ length buffer
  first_fits = omega (arith, size, simp length-take at first-length)

  first-bits : Binary (8 * n) d → (i : ℕ) → i < 8 * n → bit_of (take m buffer) i ≡ d i
  first-bits b i h = ap (λ (l : List ℕ). bit_of l i) first-bytes ∙ bits-bytes n d b i h

module _ (kind rate : ℕ) (D : Defined kind rate) (e : ℕ → ℕ) (binary : Binary (coded_bits kind rate) e) {size kept : ℕ} (es : size ≡ block_bytes kind)
    (ek : kept ≡ kept_count kind rate / 8) {block parity : List ℕ} (eb : Holds (block_bytes kind) (data_bit kind rate e) block)
    (ep : Holds (kept_count kind rate / 8) (parity_bit kind rate e) parity) where
  bit-binary : (s : ℕ) → s < coded_bits kind rate → e (coded_at kind rate s) < 2
  bit-binary s h = binary (coded_at kind rate s) (coded-lt kind rate D s h)

  block-bits : (i : ℕ) → i < data_bits kind → bit_of (take size block) i ≡ data_bit kind rate e i
  unfolding data_bit
  block-bits = first-bits es eb (λ i h. bit-binary i (omega (arith, coded-count kind rate D)))

  parity-bits : (i : ℕ) → i < kept_count kind rate → bit_of (take kept parity) i ≡ parity_bit kind rate e i
  unfolding parity_bit
  parity-bits i h =
      let n = (kept-bytes kind rate _ _ D refl refl).1 in
      first-bits ek ep (λ j l. bit-binary (data_bits kind + j) (omega (arith, coded-count kind rate D, n))) i (omega (arith, n))

  -- the count of parity bits that disagree
  pub errors-are : (taps : ℕ)
      → count (kept_count kind rate) (λ i. not (eqb (kept_bit kind rate taps (bit_of (take size block)) i) (bit_of (take kept parity) i))) ≡ disagreeing kind rate taps e
  unfolding disagreeing
  errors-are taps =
      count-ext (kept_count kind rate) _ (λ i. not (eqb (kept_bit kind rate taps (data_bit kind rate e) i) (parity_bit kind rate e i))) (λ i h.
      ap₂ (λ (x y : ℕ). not (eqb x y))
      (kept-ext kind D.kind-lt (bit_of (take size block)) (data_bit kind rate e) block-bits rate taps i h) (parity-bits i h))

  -- the block put at the start of the lent memory
  pub block-put : (out : List ℕ)
      → take size block ++ drop size out ≡ bytes_of (block_bytes kind) (data_bit kind rate e) ++ drop (block_bytes kind) out
  block-put out = ap₂ (λ (l : List ℕ) (n : ℕ). l ++ drop n out) (first-bytes es eb) es

-- parity that was computed again, against that of a list of as many bytes
pub counted : (n m total : ℕ) (d : ℕ → ℕ) (again parity : List ℕ) → m ≡ n → 8 * n ≡ total → Binary (8 * n) d → Holds n d again
    → count (8 * length (take m again)) (λ i. not (eqb (bit_of (take m again) i) (bit_of parity i))) ≡ count total (λ i. not (eqb (d i) (bit_of parity i)))
counted n m total d again parity q t b H =
    ap (λ (k : ℕ). count (8 * k) (λ i. not (eqb (bit_of (take m again) i) (bit_of parity i)))) (first-length q H)
    ∙ count-ext (8 * n) _ (λ i. not (eqb (d i) (bit_of parity i))) (λ i h. ap (λ (x : ℕ). not (eqb x (bit_of parity i))) (first-bits q H b i h))
    ∙ ap (λ (k : ℕ). count k (λ i. not (eqb (d i) (bit_of parity i)))) t
