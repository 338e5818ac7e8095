-- `combining::counters_of` meets its contract. The invariant: the items of the runs passed are counted. Assumes nothing.
use Rattle.std.proofs.Common.{◌≡◌, length, replicate}
use Rattle.votes.specs.Votes.{carries}
use Rattle.votes.specs.Loops.Counters.{middle, Adds}
use Rattle.diversity.specs.Loops.Cycle.{cycle_lane}
use Rattle.combining.proofs.counters_of.Given as goal

abbrev pub invariant-loop-run : goal.invariant-loop-run
invariant-loop-run l =
    (l.run-iterator.symbols ≡ l.symbols) × (length l.counters ≡ 512)
    × (Adds 512 0 l.run-iterator.item (carries (cycle_lane l.symbols.carriers l.symbols.offsets.now)) l.items (replicate 512 middle) l.counters)
