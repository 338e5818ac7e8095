-- `payload_combining::settle` meets its contract. Assumes nothing.
use native.Mathlib.Omega.{arith}
use lib.ListN.{get_or}
use Rattle.std.proofs.lemmas.Grind.{common_steps}
use Rattle.std.proofs.lemmas.List.Edits.{map_over_more}
use Rattle.votes.specs.Loops.Counters.{middle}
use Rattle.votes.specs.Votes.{majority}
use Rattle.payload_combining.proofs.settle.Goals as goal

pub loop-counter-preserved : goal.loop-counter-preserved
loop-counter-preserved c =
    rw c.settled.ensures
    (map_over_more (majority middle) c.args.counters.now c.loop-counter.counters c.loop-counter.counter-index (get_or c.loop-counter.counters c.loop-counter.counter-index 0) c.loop-counter-test.true c.loop-counter.invariant (grind (arith, common_steps)))
