-- `scrambler::follow_bytes` meets its contract. The invariant: the bytes below i are the scrambler's. Assumes nothing.
use Rattle.std.proofs.Common.{◌≡◌, ℕ, ◌<◌, length, slice_index}
use Rattle.scrambler.specs.Scrambler.{scrambler_byte}
use Rattle.scrambler.proofs.follow_bytes.Given as goal

abbrev pub invariant-loop-i : goal.invariant-loop-i
invariant-loop-i l = (k : ℕ) → k < l.i → k < length l.out → slice_index l.out k ≡ scrambler_byte k
