-- `pair_interleaver::places` meets its contract. The invariant: r rows are stored. Assumes nothing.
use Rattle.std.proofs.Common.{◌≡◌, ℕ, ◌*◌, ◌<◌, slice_index}
use Rattle.pair_interleaver.specs.Loops.Gather.{place_in}
use Rattle.pair_interleaver.proofs.places.Given as goal

abbrev pub invariant-loop-r : goal.invariant-loop-r
invariant-loop-r l = (x : ℕ) → x < l.r * l.n → slice_index l.out x ≡ place_in l.starts x
