-- Both passes, over the bytes of two encoders. Assumes nothing.
use mathlib.Core.Path.{◌≡◌, refl, ap, ◌∙◌}
use mathlib.Core.List.{List}
use Prim.Native.Nat.{ℕ, ◌+◌, ◌*◌, ◌/◌, ◌%◌, ◌<◌}
use native.Mathlib.Omega.{arith}
use borrow.Author.Tests.{eq-eqb, ne_eqb}
use Rattle.bits.specs.Bits.{bit_of, pack, byte_of}
use Rattle.constituent.specs.Pairs.{pair_count, pair_at}
use Rattle.constituent.specs.Loops.Bytes.{four_from}
use Rattle.constituent.specs.Encoder.{start_of, ring_start, parity_at}
use Rattle.constituent.specs.Loops.Passes.{multiplexed, state_by}
use Rattle.constituent.proofs.StateLaws.{parity-lt}
use Rattle.constituent.proofs.ByteLaws.{parity_by}

module _ (kind taps : ℕ) (p q : ℕ → ℕ) where
  -- the bits of the first encoder stand at even places, those of the second at odd ones
  pub multiplexed-first : (i t : ℕ) → i ≡ 2 * t → multiplexed kind taps p q i ≡ parity_at kind taps p t
  unfolding multiplexed
  multiplexed-first i t e = let d : i / 2 ≡ t = omega arith in rw (d, eq-eqb (i % 2) 0 (omega arith))

  pub multiplexed-second : (i t : ℕ) → i ≡ 2 * t + 1 → multiplexed kind taps p q i ≡ parity_at kind taps q t
  unfolding multiplexed
  multiplexed-second i t e = let d : i / 2 ≡ t = omega arith in rw (d, ne_eqb (i % 2) 0 (λ z. omega arith))

  pub multiplexed-lt : (i : ℕ) → multiplexed kind taps p q i < 2
  unfolding multiplexed
  multiplexed-lt i = parity-lt kind taps _ (i / 2)

  -- four parity bits of each encoder, in turn, are a byte
  pub multiplexed-byte : (i x y : ℕ) → x ≡ four_from (parity_at kind taps p) i → y ≡ four_from (parity_at kind taps q) i → 2 * x + y ≡ byte_of (multiplexed kind taps p q) i
  unfolding byte_of pack
  multiplexed-byte i x y hx hy =
      omega (
        arith,
        hx,
        hy,
        multiplexed-first (8 * i + 0) (4 * i) (omega arith),
        multiplexed-second (8 * i + 1) (4 * i) (omega arith),
        multiplexed-first (8 * i + 2) (4 * i + 1) (omega arith),
        multiplexed-second (8 * i + 3) (4 * i + 1) (omega arith),
        multiplexed-first (8 * i + 4) (4 * i + 2) (omega arith),
        multiplexed-second (8 * i + 5) (4 * i + 2) (omega arith),
        multiplexed-first (8 * i + 6) (4 * i + 3) (omega arith),
        multiplexed-second (8 * i + 7) (4 * i + 3) (omega arith),
      )

-- ---- the passes over a block's bytes

module _ (kind taps : ℕ) (bytes : List ℕ) where
  -- where pass two starts when pass one over n bytes ends at a
  pub ring-from : (n a r : ℕ) → 4 * n ≡ pair_count kind → a ≡ state_by taps bytes 0 (4 * n) → r ≡ start_of kind a → r ≡ ring_start kind taps (pair_at (bit_of bytes))
  unfolding ring_start
  ring-from n a r e ha hr = hr ∙ ap (start_of kind) (ha ∙ ap (state_by taps bytes 0) e)

  -- what pass two gives
  pub four-by : (i : ℕ)
      → four_from (parity_by taps bytes (ring_start kind taps (pair_at (bit_of bytes)))) i ≡ four_from (parity_at kind taps (pair_at (bit_of bytes))) i
  unfolding parity_at
  four-by i = refl
