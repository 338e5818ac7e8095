-- `interleaver::interleave` meets its contract. Assumes nothing.
use mathlib.Core.Path.{◌∙◌}
use lib.ListN.{get_or}
use Rattle.interleaver_shape.specs.Shapes.{coded_bits}
use Rattle.interleaver.specs.Loops.RowOrder.{row_place}
use Rattle.bits.proofs.StoreLaws.{stored-written}
use Rattle.interleaver.proofs.interleave.Goals as goal

pub returns : goal.returns
returns c =
    c.move_bits.ensures
    ∙ stored-written (coded_bits c.args.coding.kind c.args.coding.rate) (λ i. get_or c.args.rows.now (row_place c.args.coding.kind c.args.coding.rate i) 0)
    c.args.out.now c.requires.1
