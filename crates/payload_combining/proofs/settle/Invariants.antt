-- `payload_combining::settle` meets its contract. The invariant: the first counters are settled. Assumes nothing.
use mathlib.Core.Path.{◌≡◌}
use mathlib.Core.List.{map, ◌++◌}
use lib.ListN.{take, drop}
use Rattle.votes.specs.Loops.Counters.{middle}
use Rattle.votes.specs.Votes.{majority}
use Rattle.payload_combining.proofs.settle.Given as goal

abbrev pub invariant-loop-counter : goal.invariant-loop-counter
invariant-loop-counter l =
    l.counters ≡ map (majority middle) (take l.counter-index l.initial.counters) ++ drop l.counter-index l.initial.counters
