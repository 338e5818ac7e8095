-- `payload_blocks::Blocks::recover_scrambled` meets its contract: no row of the blocks so far applies, and their bytes are written. Assumes
-- nothing.
use mathlib.Core.Path.{◌≡◌}
use Prim.Native.Nat.{◌*◌}
use lib.ListN.{length, get_or}
use Rattle.bits.specs.Lists.{written}
use Rattle.refusal.proofs.OutcomeLaws.{NoneApplies}
use Rattle.card.specs.Modes.{block_bytes}
use Rattle.payload_blocks.specs.Blockwise.{blockwise}
use Rattle.payload_blocks.specs.Blocks.{block_rows}
use Rattle.payload_blocks.specs.Loops.Parts.{scrambled_byte}
use Rattle.payload_blocks.proofs.Blocks.recover_scrambled.Given as goal

abbrev pub invariant-loop-b : goal.invariant-loop-b
invariant-loop-b l =
    (length l.bytes ≡ length l.initial.bytes)
    × (l.bytes ≡ written (l.b * block_bytes l.fn.self.coding.kind) (scrambled_byte l.fn.self.coding.kind l.fn.self.coding.rate (λ x. get_or l.decided x 0)) l.initial.bytes)
    × NoneApplies (blockwise l.b (block_rows l.fn.self.coding.kind l.fn.self.coding.rate l.fn.self.coding.taps (λ x. get_or l.decided x 0)))
