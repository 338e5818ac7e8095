-- The rows have room for the coded bits of any block, and numbering keeps it.
use Rattle.std.proofs.Common.{◌≤◌, length, sym, ◌∙◌, arith, length-take-le}
use Rattle.interleaver_shape.proofs.ShapeLaws.{coded-le}
use Rattle.interleaver_vectors.proofs.shuffle.Goals as goal

pub slice_bounds-rows-end : goal.slice_bounds-rows-end
slice_bounds-rows-end c = omega (arith, coded-le c.args.coding.kind c.args.coding.rate c.args.coding.defined)

pub slice_bounds-interleave-end : goal.slice_bounds-interleave-end
slice_bounds-interleave-end c =
    let within : c.coded_bits-n.result ≤ length c.number-2.new.s = omega (arith, coded-le c.args.coding.kind c.args.coding.rate c.args.coding.defined) in
    sym (length-take-le _ _ within)

pub interleave-requires : goal.interleave-requires
interleave-requires c =
    let within : c.coded_bits-n.result ≤ length c.number-2.new.s = omega (arith, coded-le c.args.coding.kind c.args.coding.rate c.args.coding.defined) in
    (length-take-le _ _ within ∙ c.coded_bits-n.ensures, c.requires.1)
