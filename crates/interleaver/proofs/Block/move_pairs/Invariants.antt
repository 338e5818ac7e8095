-- `interleaver::Block::move_pairs` meets its contract. The invariant: the pairs of the passes before this one are carried. Assumes nothing.
use mathlib.Core.Path.{◌≡◌}
use Prim.Native.Nat.{◌*◌}
use lib.ListN.{length}
use Rattle.interleaver.specs.Rows.{passes}
use Rattle.interleaver.specs.Loops.Stores.{flag, carried}
use Rattle.interleaver.proofs.Block.move_pairs.Given as goal

abbrev pub invariant-loop-pass : goal.invariant-loop-pass
invariant-loop-pass g l =
    record {
      place : l.nibble ≡ length (passes l.self.shape.rows l.self.shape.step l.pass) * 2;
      moved : l.to ≡ carried l.self.shape (flag g.row.BACK) l.self.from.now 0 l.nibble l.initial.to;
    }
