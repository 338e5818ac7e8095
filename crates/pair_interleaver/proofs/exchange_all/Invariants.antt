-- `pair_interleaver::exchange_all` meets its contract. The invariant: the bytes passed are exchanged, and the others kept.
-- Assumes nothing.
use Rattle.std.proofs.Common.{◌≡◌, ℕ, ◌<◌, ◌≤◌, slice_index}
use Rattle.pair_interleaver.specs.Loops.Gather.{exchanged_byte}
use Rattle.pair_interleaver.proofs.exchange_all.Given as goal

abbrev pub invariant-loop-byte : goal.invariant-loop-byte
invariant-loop-byte l = record {
  done : (i : ℕ) → i < l.byte-index → slice_index l.out i ≡ exchanged_byte (slice_index l.initial.out i);
  kept : (i : ℕ) → l.byte-index ≤ i → slice_index l.out i ≡ slice_index l.initial.out i;
}
