-- Laws of the coded bits: how many there are, that they are bits, and which data bits they ask for. Assumes nothing.
use mathlib.Core.Path.{◌≡◌, refl, sym, ap, ◌∙◌}
use Prim.Native.Nat.{ℕ, zero, suc, ◌+◌, ◌-◌, ◌≤◌, ◌<◌}
use native.Mathlib.Omega.{arith}
use borrow.Author.Tests.{lt-ltb, le-ltb}
use Rattle.bits.proofs.NumberLaws.{lt-cases}
use Rattle.bits.proofs.BitLaws.{Binary}
use Rattle.bits.proofs.RangeLaws.{under}
use Rattle.card.specs.Modes.{block_bytes, Defined}
use Rattle.constituent.specs.Pairs.{pair_count}
use Rattle.turbo.specs.Puncture.{kept_count}
use Rattle.turbo.specs.Parity.{kept_bit}
use Rattle.turbo.proofs.ParityLaws.{kept-binary, kept-ext}
use Rattle.turbo.proofs.PunctureLaws.{all-count, remain, kept-le}
use Rattle.constituent.proofs.PairLaws.{few-pairs}
use Rattle.interleaver_shape.specs.Shapes.{coded_bits}
use Rattle.interleaver.specs.Source.{source}
use Rattle.interleaver.proofs.InterleaverLaws.{source-lt}
use Rattle.fec.specs.Coding.{data_bits, source_bit, coded_bit}

-- the longest block has 520 bytes
pub few_bytes : (kind : ℕ) → kind < 5 → block_bytes kind < 521
few_bytes = under 5 521 block_bytes tt

-- the source bits below the data bits' number are data, and those from it on are parity
module _ (kind rate taps : ℕ) (d : ℕ → ℕ) where
  pub source-data : (k : ℕ) → k < data_bits kind → source_bit kind rate taps d k ≡ d k
  unfolding source_bit
  source-data k h = rw (lt-ltb k (data_bits kind) h)

  pub source-kept : (s : ℕ) → data_bits kind ≤ s → source_bit kind rate taps d s ≡ kept_bit kind rate taps d (s - data_bits kind)
  unfolding source_bit
  source-kept s h = rw (le-ltb s (data_bits kind) h)

  pub source-parity : (i : ℕ) → source_bit kind rate taps d (data_bits kind + i) ≡ kept_bit kind rate taps d i
  source-parity i =
      let z : data_bits kind + i - data_bits kind ≡ i = omega arith in
      source-kept (data_bits kind + i) (omega arith) ∙ ap (kept_bit kind rate taps d) z

-- the coded bits are the data bits and the kept parity bits: at rate 1/2 all of them, and at 16/18, where the block is the longest, 520
pub coded-count : (kind rate : ℕ) → Defined kind rate → coded_bits kind rate ≡ data_bits kind + kept_count kind rate
unfolding coded_bits
coded-count kind zero D = omega (arith, all-count kind 0 refl)
coded-count kind (suc zero) D = rw (D.high-rate refl) (omega (arith, remain))
coded-count kind (suc (suc rate)) D = absurd (omega (arith, D.rate-lt))

module _ (kind rate : ℕ) (D : Defined kind rate) where
  -- the most parity bits, and those of frame control, with its coded bits
  pub kept-most : kept_count kind rate ≤ 4160
  kept-most = omega (arith, kept-le kind rate, few-pairs kind D.kind-lt)

  module _ (frame : kind ≡ 0) where
    pub frame-kept : kept_count kind rate ≤ 128
    frame-kept = let pairs : pair_count kind ≡ 64 = ap pair_count frame in omega (arith, kept-le kind rate)

    pub frame-coded : coded_bits kind rate ≤ 256
    frame-coded = let bits : data_bits kind ≡ 128 = ap data_bits frame in omega (arith, coded-count kind rate D, frame-kept)

  -- those of the kinds up to 136 bytes
  module _ (short : kind < 3) where
    pub short-kept : kept_count kind rate ≤ 1088
    short-kept = omega (arith, kept-le kind rate, under 3 545 pair_count tt kind short)

    pub short-coded : coded_bits kind rate ≤ 2176
    short-coded = omega (arith, coded-count kind rate D, short-kept, under 3 1089 data_bits tt kind short)

  -- coded bits of bits are bits
  pub coded-binary : (taps : ℕ) (d : ℕ → ℕ) → Binary (data_bits kind) d → (i : ℕ) → coded_bit kind rate taps d i < 2
  unfolding coded_bit
  coded-binary taps d h i =
      let s = source kind rate i in
      lt-cases s (data_bits kind)
      (λ l. rw (source-data kind rate taps d s l) (h s l))
      (λ l. rw (source-kept kind rate taps d s l) (kept-binary kind rate taps d (s - data_bits kind)))

  -- coded bits ask only for the data bits of the block
  module _ (taps : ℕ) (d e : ℕ → ℕ) (same : (k : ℕ) → k < data_bits kind → d k ≡ e k) where
    pub source-ext : (s : ℕ) → s < coded_bits kind rate → source_bit kind rate taps d s ≡ source_bit kind rate taps e s
    source-ext s h =
        lt-cases s (data_bits kind)
        (λ l. source-data kind rate taps d s l ∙ same s l ∙ sym (source-data kind rate taps e s l))
        (λ l.
        source-kept kind rate taps d s l ∙ kept-ext kind D.kind-lt d e same rate taps (s - data_bits kind) (omega (arith, coded-count kind rate D))
        ∙ sym (source-kept kind rate taps e s l))

    pub coded-ext : (i : ℕ) → i < coded_bits kind rate → coded_bit kind rate taps d i ≡ coded_bit kind rate taps e i
    unfolding coded_bit
    coded-ext i h = source-ext (source kind rate i) (source-lt kind rate D i h)
