-- `payload_blocks::Blocks::descramble` meets its contract: each turn scrambles a block behind those before it. Assumes nothing.
use mathlib.Core.Path.{◌≡◌, refl, sym, ap, ◌∙◌}
use Prim.Native.Nat.{ℕ, ◌+◌, ◌*◌, ◌≤◌}
use native.Mathlib.Omega.{arith}
use native.Mathlib.Nat.{zero-mul}
use lib.ListN.{length}
use Rattle.bits.proofs.NumberLaws.{row_next, row_within}
use Rattle.bits.proofs.ListLaws.{written_none, written-part, written_all}
use Rattle.card.specs.Modes.{block_bytes}
use Rattle.payload_blocks.specs.Loops.Parts.{descrambled_byte}
use Rattle.payload_blocks.proofs.BufferLaws.{part-descrambled}
use Rattle.payload_blocks.proofs.Blocks.descramble.Goals as goal

pub loop-b-init : goal.loop-b-init
loop-b-init c = (refl, rw zero-mul (written_none _ _))

pub loop-b-preserved : goal.loop-b-preserved
loop-b-preserved c =
    let a = c.args.self in
    let b = c.loop-b.b in
    let size = block_bytes a.coding.kind in
    let is = c.block_bytes-size.ensures in
    let at : b * size ≡ b * c.block_bytes-size.result = ap (λ (n : ℕ). b * n) (sym is) in
    let inside : b * c.block_bytes-size.result + c.block_bytes-size.result ≤ length c.args.bytes.now =
    omega (arith, at, is, row_within b size a.count c.loop-b-test.true, c.requires.0) in (
      omega (arith, c.loop-b.invariant.0),
      written_all _ _ _ _ _
          (written-part (b * c.block_bytes-size.result) size (descrambled_byte size c.args.bytes.now) _ _ _ _ (written_all _ _ _ _ _ c.loop-b.invariant.1 at)
          (λ j h. refl)
          (c.scramble.ensures ∙ part-descrambled size c.args.bytes.now b _ _ _ (sym at) (ap (λ (n : ℕ). b * c.block_bytes-size.result + n) is) inside))
          (omega (arith, at, row_next b size)),
    )

pub returns : goal.returns
returns c =
    let a = c.args.self in
    let last : c.loop-b.b ≡ a.count = omega arith in
    written_all _ _ _ _ _ c.loop-b.invariant.1 (ap (λ (k : ℕ). k * block_bytes a.coding.kind) last)
