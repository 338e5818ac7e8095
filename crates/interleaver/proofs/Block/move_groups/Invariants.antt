-- `interleaver::Block::move_groups` meets its contract. The invariant: the data nibbles of the passes before this one, and the parity nibbles
-- among them, are carried. Assumes nothing.
use mathlib.Core.Path.{◌≡◌}
use lib.ListN.{length}
use Rattle.interleaver.specs.Rows.{passes}
use Rattle.interleaver.specs.Source.{data_place}
use Rattle.interleaver.specs.Loops.Stores.{flag, carried}
use Rattle.interleaver.specs.Loops.Walks.{Stands}
use Rattle.interleaver.proofs.Block.move_groups.Given as goal

abbrev pub invariant-loop-pass : goal.invariant-loop-pass
invariant-loop-pass g l =
    record {
      stands : Stands l.self.shape l.at;
      place : data_place l.self.shape l.at.nibble ≡ length (passes l.self.shape.rows l.self.shape.step l.pass);
      moved : l.to ≡ carried l.self.shape (flag g.row.BACK) l.self.from.now 0 l.at.nibble l.initial.to;
    }
