-- `scrambler::step_bytes` meets its contract. The invariant: the bytes passed are the scrambler's, and the register has given their
-- bits. Assumes nothing.
use Rattle.std.proofs.Common.{◌≡◌, ℕ, ◌*◌, ◌<◌, slice_index}
use Rattle.scrambler.specs.Scrambler.{after_shifts, all_ones, scrambler_byte}
use Rattle.scrambler.proofs.step_bytes.Given as goal

abbrev pub invariant-loop-byte : goal.invariant-loop-byte
invariant-loop-byte l = record {
  shifts : l.register.0 ≡ after_shifts all_ones (8 * l.byte-index);
  scrambler : (k : ℕ) → k < l.byte-index → slice_index l.out k ≡ scrambler_byte k;
}
