-- `diversity::cycle_of` meets its contract: two halves of the cycle. Assumes nothing.
use Rattle.std.proofs.Common.{refl}
use Rattle.diversity.proofs.CycleLaws.{cycle-filled}
use Rattle.diversity.proofs.cycle_of.Goals as goal

pub returns : goal.returns
returns c =
    cycle-filled c.args.coded.now _ _ _ refl c.half_cycle.ensures c.half_cycle-2.ensures
