-- `interleaver::move_bits` meets its contract. Assumes nothing.
use mathlib.Core.Path.{◌≡◌, sym, ◌∙◌}
use native.Mathlib.Omega.{arith}
use Rattle.interleaver_shape.specs.Shapes.{coded_of, coded_bits}
use Rattle.interleaver_shape.proofs.ShapeLaws.{coded-is}
use Rattle.interleaver.proofs.SourceLaws.{orderly}
use Rattle.interleaver.proofs.NibbleLaws.{carried-block}
use Rattle.interleaver.proofs.move_bits.Given.{Over}
use Rattle.interleaver.proofs.move_bits.Goals as goal
use Rattle.interleaver.proofs.move_bits.Goals.{After-shape_of}

-- how many coded bits the shape has
coded : (g : Over) (c : After-shape_of g) → coded_of c.shape_of.result ≡ coded_bits c.args.coding.kind c.args.coding.rate
coded g c = coded-is c.args.coding.kind c.args.coding.rate c.shape_of.result c.shape_of.ensures.0

pub invariant_of-block : goal.invariant_of-block
invariant_of-block g c =
    let s = c.shape_of.ensures in
    record { orderly = orderly s.1; small = s.2; near = s.3; whole = c.requires.0 ∙ sym (coded g (goal.at.invariant_of-block g c).After-shape_of) }

pub invariant_of-block-else-block : goal.invariant_of-block-else-block
invariant_of-block-else-block g c =
    let s = c.shape_of.ensures in
    record { orderly = orderly s.1; small = s.2; near = s.3; whole = c.requires.0 ∙ sym (coded g (goal.at.invariant_of-block-else-block g c).After-shape_of) }

pub move_groups-requires : goal.move_groups-requires
move_groups-requires g c = (omega (arith, coded g (goal.at.move_groups-requires g c).After-shape_of), c.if-block.true)

pub move_pairs-requires : goal.move_pairs-requires
move_pairs-requires g c = (omega (arith, coded g (goal.at.move_pairs-requires g c).After-shape_of), c.shape_of.ensures.4 c.if-block.false)

pub returns-then-block : goal.returns-then-block
returns-then-block g c = carried-block _ _ _ _ _ _ _ c.shape_of.ensures.0 c.move_groups.ensures

pub returns-else-block : goal.returns-else-block
returns-else-block g c = carried-block _ _ _ _ _ _ _ c.shape_of.ensures.0 c.move_pairs.ensures
