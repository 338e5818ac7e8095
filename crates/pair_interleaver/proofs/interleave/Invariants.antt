-- `pair_interleaver::interleave` meets its contract. The invariant: the bytes of r turns, four rows each, are stored. Assumes nothing.
use Rattle.std.proofs.Common.{◌≡◌, ℕ, ◌*◌, ◌<◌, slice_index}
use Rattle.constituent.specs.Loops.Bytes.{four_from}
use Rattle.pair_interleaver.specs.Loops.Gather.{by_rows}
use Rattle.pair_interleaver.proofs.interleave.Given as goal

abbrev pub invariant-loop-r : goal.invariant-loop-r
invariant-loop-r l = (i : ℕ) → i < l.r * l.width → slice_index l.out i ≡ four_from (by_rows l.places l.list l.n) i
