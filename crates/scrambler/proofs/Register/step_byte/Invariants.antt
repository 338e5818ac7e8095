-- `scrambler::Register::step_byte` meets its contract. The invariant: as many bits as turns are packed, and as many shifts are done.
-- Assumes nothing.
use Rattle.std.proofs.Common.{◌≡◌}
use Rattle.bits.specs.Bits.{pack}
use Rattle.scrambler.specs.Scrambler.{after_shifts, scrambler_bit}
use Rattle.scrambler.proofs.Register.step_byte.Given as goal

abbrev pub invariant-loop : goal.invariant-loop
invariant-loop l = record {
  packed : l.byte ≡ pack l.counter (scrambler_bit l.fn.self.0);
  shifts : l.register.0 ≡ after_shifts l.fn.self.0 l.counter;
}
