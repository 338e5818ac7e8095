-- `scrambler::step_bytes` meets its contract: a register that gave the bits of some bytes gives the next byte. Assumes nothing.
use Rattle.std.proofs.Common.{◌∙◌, arith}
use Rattle.std.proofs.lemmas.Grind.{common_steps}
use Rattle.scrambler.specs.Scrambler.{after_shifts, all_ones}
use Rattle.scrambler.proofs.ScramblerLaws.{register-byte, after-byte}
use Rattle.scrambler.proofs.step_bytes.Goals as goal

pub loop-byte-init : goal.loop-byte-init
unfolding after_shifts
loop-byte-init c = record { shifts = c.new-register.ensures; scrambler = λ k h. omega arith }

pub loop-byte-preserved : goal.loop-byte-preserved
loop-byte-preserved c =
    let i = c.loop-byte.byte-index in
    let s = c.step_byte-next.ensures in
    let value = s.0 ∙ register-byte i c.loop-byte.invariant.shifts in
    record {
      shifts = s.1 ∙ after-byte all_ones i c.loop-byte.invariant.shifts;
      scrambler = grind (arith, common_steps);
    }
