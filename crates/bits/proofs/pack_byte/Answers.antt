-- `bits::pack_byte` meets its contract. Assumes nothing.
use mathlib.Core.Path.{◌≡◌, ap}
use mathlib.Core.List.{List}
use Prim.Native.Nat.{ℕ, ◌+◌, ◌*◌, ◌<◌}
use native.Mathlib.Omega.{arith}
use lib.ListN.{get_or}
use Rattle.bits.specs.Bits.{pack, byte_of}
use Rattle.bits.proofs.pack_byte.Goals as goal
use Rattle.bits.proofs.pack_byte.Goals.{After-pack_nibble-low}

module _ (bits : List ℕ) (k : ℕ) (bit : (j : ℕ) → j < 8 → get_or bits (8 * k + j) 0 < 2) where
  at_first : get_or bits (8 * k) 0 ≡ get_or bits (8 * k + 0) 0
  at_first = let e : 8 * k ≡ 8 * k + 0 = omega arith in ap (λ (i : ℕ). get_or bits i 0) e

  first : get_or bits (8 * k) 0 < 2
  first = omega (arith, at_first, bit 0 (omega arith))

  -- four bits above four bits
  joined : (high low : ℕ)
      → high ≡ get_or bits (8 * k) 0 * 8 + get_or bits (8 * k + 1) 0 * 4 + get_or bits (8 * k + 2) 0 * 2 + get_or bits (8 * k + 3) 0
      → low ≡ get_or bits (8 * k + 4) 0 * 8 + get_or bits (8 * k + 5) 0 * 4 + get_or bits (8 * k + 6) 0 * 2 + get_or bits (8 * k + 7) 0
      → (high < 16) × (low < 16) × (high * 16 + low ≡ byte_of (λ i. get_or bits i 0) k)
  unfolding byte_of pack
  joined high low e d = (
    omega (arith, first, bit 1 (omega arith), bit 2 (omega arith), bit 3 (omega arith)),
    omega (arith, bit 4 (omega arith), bit 5 (omega arith), bit 6 (omega arith), bit 7 (omega arith)),
    omega (arith, at_first),
  )

packed : (c : After-pack_nibble-low)
    → (c.pack_nibble-high.result < 16) × (c.pack_nibble-low.result < 16)
    × (c.pack_nibble-high.result * 16 + c.pack_nibble-low.result
    ≡ byte_of (λ i. get_or c.args.bits.now i 0) c.args.k)
packed c =
    joined c.args.bits.now c.args.k c.requires.2 _ _
    c.pack_nibble-high.ensures c.pack_nibble-low.ensures

pub pack_nibble-high-requires : goal.pack_nibble-high-requires
pack_nibble-high-requires c =
    let bit = c.requires.2 in
    (first c.args.bits.now c.args.k bit, bit 1 (omega arith), bit 2 (omega arith), bit 3 (omega arith))

pub pack_nibble-low-requires : goal.pack_nibble-low-requires
pack_nibble-low-requires c =
    let bit = c.requires.2 in
    (bit 4 (omega arith), bit 5 (omega arith), bit 6 (omega arith), bit 7 (omega arith))

pub overflow_mul-result : goal.overflow_mul-result
overflow_mul-result c = omega (arith, (packed c).0)

pub overflow_add-result : goal.overflow_add-result
overflow_add-result c = omega (arith, (packed c).0, (packed c).1)

pub returns : goal.returns
returns c = (packed c).2
