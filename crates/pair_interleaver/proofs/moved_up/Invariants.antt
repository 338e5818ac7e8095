-- `pair_interleaver::moved_up` meets its contract. The invariant: k entries are stored. Assumes nothing.
use Rattle.std.proofs.Common.{◌≡◌, ℕ, ◌+◌, ◌<◌, slice_index}
use Rattle.pair_interleaver.proofs.moved_up.Given as goal

abbrev pub invariant-loop-k : goal.invariant-loop-k
invariant-loop-k l = (j : ℕ) → j < l.k → slice_index l.out j ≡ slice_index l.starts j + l.by
