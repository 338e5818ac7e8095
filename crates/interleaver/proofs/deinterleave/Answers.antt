-- `interleaver::deinterleave` meets its contract. Assumes nothing.
use mathlib.Core.Path.{ap, ◌∙◌}
use Prim.Native.Nat.{ℕ}
use lib.ListN.{get_or}
use Rattle.bits.proofs.ListLaws.{written-ext}
use Rattle.bits.proofs.PermutationLaws.{inverse}
use Rattle.interleaver_shape.specs.Shapes.{coded_bits}
use Rattle.interleaver.specs.Source.{coded_at}
use Rattle.interleaver.specs.Loops.RowOrder.{row_place, row_source}
use Rattle.interleaver.proofs.InterleaverLaws.{row-permutes, row-inverse}
use Rattle.bits.proofs.StoreLaws.{stored-permuted}
use Rattle.interleaver.proofs.deinterleave.Goals as goal

pub returns : goal.returns
returns c =
    let kind = c.args.coding.kind in
    let rate = c.args.coding.rate in
    let coded = c.args.coded.now in
    let rows = c.args.rows.now in
    let n = coded_bits kind rate in
    c.move_bits.ensures
    ∙ stored-permuted n (row_place kind rate) (λ i. get_or coded i 0) rows (row-permutes kind rate c.args.coding.defined) c.requires.1
    ∙ written-ext n (λ j. get_or coded (inverse n (row_place kind rate) j) 0) (λ j. get_or coded (coded_at kind rate (row_source kind rate j)) 0) rows
    (λ j h. ap (λ (i : ℕ). get_or coded i 0) (row-inverse kind rate c.args.coding.defined j h))
