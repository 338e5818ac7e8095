-- `pair_interleaver::split` meets its contract. The invariant: the digits of i elements are stored. Assumes nothing.
use Rattle.std.proofs.Common.{◌≡◌, ℕ, ◌*◌, ◌<◌, slice_index}
use Rattle.pair_interleaver.specs.Loops.Gather.{digit_of}
use Rattle.pair_interleaver.proofs.split.Given as goal

abbrev pub invariant-loop-i : goal.invariant-loop-i
invariant-loop-i l = (t : ℕ) → t < 2 * l.i → slice_index l.out t ≡ digit_of l.base l.src t
