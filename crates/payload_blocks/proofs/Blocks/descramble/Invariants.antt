-- `payload_blocks::Blocks::descramble` meets its contract: each turn scrambles a block behind those before it. Assumes nothing.
use mathlib.Core.Path.{◌≡◌}
use Prim.Native.Nat.{◌*◌}
use lib.ListN.{length}
use Rattle.bits.specs.Lists.{written}
use Rattle.card.specs.Modes.{block_bytes}
use Rattle.payload_blocks.specs.Loops.Parts.{descrambled_byte}
use Rattle.payload_blocks.proofs.Blocks.descramble.Given as goal

abbrev pub invariant-loop-b : goal.invariant-loop-b
invariant-loop-b l =
    (length l.out ≡ length l.initial.out)
    × (l.out ≡ written (l.b * block_bytes l.fn.self.coding.kind) (descrambled_byte (block_bytes l.fn.self.coding.kind) l.bytes) l.initial.out)
