-- `record::same_from` meets its contract. The invariant: the elements of the blocks before b are as expected. Assumes nothing.
use Rattle.std.proofs.Common.{◌≡◌, true, ℕ, ◌+◌, ◌*◌, ◌<◌, ◌≤◌}
use Rattle.record.proofs.same_from.Given as goal

abbrev pub invariant-loop-b : goal.invariant-loop-b
invariant-loop-b g l = (k : ℕ) → l.from ≤ k → k < l.from + l.b * 64 → g.T.Element.same l.out l.expected k ≡ true
