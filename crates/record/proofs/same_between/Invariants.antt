-- `record::same_between` meets its contract. The invariant: the elements before i are as expected. Assumes nothing.
use Rattle.std.proofs.Common.{◌≡◌, true, ℕ, ◌<◌, ◌≤◌}
use Rattle.record.proofs.same_between.Given as goal

abbrev pub invariant-loop-i : goal.invariant-loop-i
invariant-loop-i g l = (k : ℕ) → l.from ≤ k → k < l.i → g.T.Element.same l.out l.expected k ≡ true
