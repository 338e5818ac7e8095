-- `diversity::Symbols::item_count` meets its contract: the items can be counted. Assumes nothing.
use Rattle.std.proofs.Common.{refl, arith}
use Rattle.diversity.specs.Lanes.{carrier_count, item_count}
use Rattle.diversity.proofs.Symbols.item_count.Goals as goal

pub overflow_mul-result : goal.overflow_mul-result
unfolding item_count carrier_count
overflow_mul-result c = omega (arith, c.args.self.now.countable)

pub overflow_mul-result-2 : goal.overflow_mul-result-2
unfolding item_count carrier_count
overflow_mul-result-2 c = omega (arith, c.args.self.now.countable)

pub returns : goal.returns
unfolding item_count carrier_count
returns c = refl
