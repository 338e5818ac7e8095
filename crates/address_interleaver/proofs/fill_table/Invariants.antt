-- `address_interleaver::fill_table` meets its contract. The invariant: the addresses of the first k interleavers are stored. Assumes nothing.
use Rattle.std.proofs.Common.{◌≡◌, ℕ, ◌*◌, ◌<◌, ◌≤◌, slice_index}
use Rattle.address_interleaver.specs.Loops.Table.{address_of}
use Rattle.address_interleaver.proofs.fill_table.Given as goal

abbrev pub invariant-loop-k : goal.invariant-loop-k
invariant-loop-k l = record {
  stored : (u : ℕ) → u < l.k * l.span → slice_index l.out u ≡ address_of l.interleavers l.span l.step u;
  kept : (u : ℕ) → l.k * l.span ≤ u → slice_index l.out u ≡ slice_index l.initial.out u;
}
