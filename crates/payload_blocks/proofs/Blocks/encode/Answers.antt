-- `payload_blocks::Blocks::encode` meets its contract: each turn codes a block behind those before it. Assumes nothing.
use mathlib.Core.Path.{◌≡◌, refl, sym, ap}
use Prim.Native.Nat.{ℕ, ◌+◌, ◌*◌}
use native.Mathlib.Omega.{arith}
use native.Mathlib.Nat.{zero-mul}
use Rattle.bits.proofs.NumberLaws.{row_next}
use Rattle.bits.proofs.ListLaws.{written_none, written-part, written_all}
use Rattle.interleaver_shape.specs.Shapes.{coded_bits}
use Rattle.payload_blocks.specs.Blocks.{joined_bit}
use Rattle.payload_blocks.proofs.BufferLaws.{part-joined}
use Rattle.payload_blocks.proofs.Blocks.encode.Goals as goal

pub loop-b-init : goal.loop-b-init
loop-b-init c = (refl, rw zero-mul (written_none _ _))

pub loop-b-preserved : goal.loop-b-preserved
loop-b-preserved c =
    let a = c.args.self.coding in
    let b = c.loop-b.b in
    let size = c.block_bytes-size.ensures in
    let bits = c.coded_bits-bits.ensures in
    let at : b * coded_bits a.kind a.rate ≡ b * c.coded_bits-bits.result = ap (λ (n : ℕ). b * n) (sym bits) in (
      omega (arith, c.loop-b.invariant.0),
      written_all _ _ _ _ _
          (written-part (b * c.coded_bits-bits.result) (coded_bits a.kind a.rate) (joined_bit a.kind a.rate a.taps c.args.payload.now) _ _ _ _
          (written_all _ _ _ _ _ c.loop-b.invariant.1 at)
          (λ j h. part-joined a.kind a.rate a.taps c.args.payload.now b _ _ _ j (ap (λ (n : ℕ). b * n) size) (ap (λ (n : ℕ). b * c.block_bytes-size.result + n) size) (sym at) h)
          c.encode_block.ensures)
          (omega (arith, at, row_next b (coded_bits a.kind a.rate))),
    )

pub returns : goal.returns
returns c =
    let a = c.args.self in
    let last : c.loop-b.b ≡ a.count = omega arith in
    written_all _ _ _ _ _ c.loop-b.invariant.1 (ap (λ (k : ℕ). k * coded_bits a.coding.kind a.coding.rate) last)
