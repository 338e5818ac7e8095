-- The pairs of a block's bytes. Assumes nothing.
use mathlib.Core.Path.{◌≡◌, ap, ◌∙◌}
use mathlib.Core.List.{List}
use Prim.Native.Nat.{ℕ, zero, suc, ◌+◌, ◌-◌, ◌*◌, ◌/◌, ◌%◌, ◌^◌, ◌<◌}
use native.Mathlib.Nat.{mod-lt}
use native.Mathlib.Omega.{arith}
use lib.Dec.{lit<}
use lib.ListN.{get_or}
use lib.Pow.{shr-shr}
use Rattle.bits.specs.Bits.{bit_of}
use Rattle.bits.proofs.BitLaws.{bit-binary}
use Rattle.bits.proofs.RangeLaws.{under}
use Rattle.constituent.specs.Pairs.{pair_count, pair_at}
use Rattle.constituent.specs.Loops.Bytes.{pair_in, four_from}

pub few-pairs : (kind : ℕ) → kind < 5 → pair_count kind < 2081
few-pairs = under 5 2081 pair_count tt

-- two neighbouring bits of a byte are a pair
pub pair_read : (bytes : List ℕ) (t : ℕ) → get_or bytes (t / 4) 0 / 2 ^ (6 - 2 * (t % 4)) % 4 ≡ pair_at (bit_of bytes) t
unfolding pair_at bit_of
pair_read bytes t =
    let a : 2 * t / 8 ≡ t / 4 = omega arith in
    let b : (2 * t + 1) / 8 ≡ t / 4 = omega arith in
    let c : 7 - 2 * t % 8 ≡ (6 - 2 * (t % 4)) + 1 = omega arith in
    let d : 7 - (2 * t + 1) % 8 ≡ 6 - 2 * (t % 4) = omega arith in
    rw (a, b, c, d, ← shr-shr (get_or bytes (t / 4) 0) (6 - 2 * (t % 4)) 1) (omega arith)

pub pair_lt : (bytes : List ℕ) (t : ℕ) → pair_at (bit_of bytes) t < 4
unfolding pair_at
pair_lt bytes t = omega (arith, bit-binary bytes (2 * t), bit-binary bytes (2 * t + 1))

-- one of four pairs in a byte
pub four-read : (p : ℕ → ℕ) → ((t : ℕ) → p t < 4) → (t : ℕ) → four_from p (t / 4) / 2 ^ (6 - 2 * (t % 4)) % 4 ≡ p t
four-read p h t = go (t / 4) (t % 4) (mod-lt t (lit< tt)) ∙ ap p (omega arith)
  where
    go : (i j : ℕ) → j < 4 → four_from p i / 2 ^ (6 - 2 * j) % 4 ≡ p (4 * i + j)
    go i zero l = let z : 4 * i + 0 ≡ 4 * i = omega arith in rw z (omega (arith, h (4 * i), h (4 * i + 1), h (4 * i + 2), h (4 * i + 3)))
    go i (suc zero) l = omega (arith, h (4 * i), h (4 * i + 1), h (4 * i + 2), h (4 * i + 3))
    go i (suc (suc zero)) l = omega (arith, h (4 * i), h (4 * i + 1), h (4 * i + 2), h (4 * i + 3))
    go i (suc (suc (suc zero))) l = omega (arith, h (4 * i), h (4 * i + 1), h (4 * i + 2), h (4 * i + 3))
    go i (suc (suc (suc (suc j)))) l = absurd (omega arith)

-- pair j of byte i
pub pair-in-byte : (bytes : List ℕ) (i j : ℕ) → j < 4 → pair_in (get_or bytes i 0) j ≡ pair_at (bit_of bytes) (4 * i + j)
pair-in-byte bytes i j h =
    let a : (4 * i + j) / 4 ≡ i = omega arith in
    let b : (4 * i + j) % 4 ≡ j = omega arith in
    rw (a, b) at (pair_read bytes (4 * i + j))
