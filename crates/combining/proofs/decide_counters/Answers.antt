-- `combining::decide_counters` meets its contract: the pairs are the counters of their places. Assumes nothing.
use Rattle.combining.proofs.CounterLaws.{pairs_decide}
use Rattle.combining.proofs.decide_counters.Goals as goal

pub returns : goal.returns
returns c = pairs_decide _ _ _ c.fits-counters c.pairs.ensures c.decide_pairs.ensures
