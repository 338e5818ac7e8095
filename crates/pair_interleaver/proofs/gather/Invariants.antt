-- `pair_interleaver::gather` meets its contract. The invariant: i bytes are stored. Assumes nothing.
use Rattle.std.proofs.Common.{◌≡◌, ℕ, ◌<◌, slice_index}
use Rattle.constituent.specs.Loops.Bytes.{four_from}
use Rattle.pair_interleaver.specs.Loops.Gather.{picked}
use Rattle.pair_interleaver.proofs.gather.Given as goal

abbrev pub invariant-loop-i : goal.invariant-loop-i
invariant-loop-i l = (j : ℕ) → j < l.i → slice_index l.out j ≡ four_from (picked l.places l.list) j
