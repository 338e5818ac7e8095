-- `combining::decide_pairs` meets its contract: two halves are all bits. Assumes nothing.
use Rattle.std.proofs.Common.{refl}
use Rattle.combining.proofs.CounterLaws.{all-bits}
use Rattle.combining.proofs.decide_pairs.Goals as goal

pub returns : goal.returns
returns c = all-bits c.args.both.now _ _ _ refl c.decide_half.ensures c.decide_half-2.ensures
