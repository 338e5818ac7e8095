-- `payload_blocks::Blocks::encode` meets its contract: each turn codes a block behind those before it. Assumes nothing.
use mathlib.Core.Path.{◌≡◌}
use Prim.Native.Nat.{◌*◌}
use lib.ListN.{length}
use Rattle.bits.specs.Lists.{written}
use Rattle.interleaver_shape.specs.Shapes.{coded_bits}
use Rattle.payload_blocks.specs.Blocks.{joined_bit}
use Rattle.payload_blocks.proofs.Blocks.encode.Given as goal

abbrev pub invariant-loop-b : goal.invariant-loop-b
invariant-loop-b l =
    (length l.out ≡ length l.initial.out)
    × (l.out ≡ written (l.b * coded_bits l.fn.self.coding.kind l.fn.self.coding.rate) (joined_bit l.fn.self.coding.kind l.fn.self.coding.rate l.fn.self.coding.taps l.payload) l.initial.out)
