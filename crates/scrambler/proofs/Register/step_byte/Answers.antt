-- `scrambler::Register::step_byte` meets its contract: at most seven bits are packed before the last turn, and each turn packs one more.
-- Assumes nothing.
use Rattle.std.proofs.Common.{◌^◌, ◌<◌, sym, ap, ◌∙◌, refl, arith}
use lib.Pow.{pow_mono}
use Rattle.bits.specs.Bits.{pack}
use Rattle.bits.proofs.BitLaws.{pack-lt, pack-next}
use Rattle.scrambler.specs.Scrambler.{shifted, after_shifts, scrambler_bit}
use Rattle.scrambler.proofs.ScramblerLaws.{feedback-binary, scrambler-binary, after_next}
use Rattle.scrambler.proofs.Register.step_byte.Goals as goal
use Rattle.scrambler.proofs.Register.step_byte.Goals.{In-loop}

-- at most seven bits are packed at the start of a turn
room : (c : In-loop) → c.loop.byte < 2 ^ 7
room c =
    omega (
      arith,
      pack-lt c.loop.counter (scrambler_bit c.args.self.0) (λ j b. scrambler-binary c.args.self.0 j),
      pow_mono {i = c.loop.counter} {j = 7} (omega arith),
    )

pub loop-init : goal.loop-init
unfolding pack after_shifts
loop-init c = record { packed = refl; shifts = refl }

pub overflow_mul-byte : goal.overflow_mul-byte
overflow_mul-byte c = omega (arith, room (goal.at.overflow_mul-byte c).In-loop)

pub overflow_add-byte : goal.overflow_add-byte
overflow_add-byte c = omega (arith, room (goal.at.overflow_add-byte c).In-loop, c.step-bit.ensures.0, feedback-binary c.loop.register.0)

pub loop-preserved : goal.loop-preserved
unfolding scrambler_bit
loop-preserved c =
    let r = c.args.self.0 in
    let s = c.step-bit.ensures in
    record {
      packed = rw (s.0, c.loop.invariant.packed, c.loop.invariant.shifts) (sym (pack-next c.loop.counter (scrambler_bit r)));
      shifts = s.1 ∙ ap shifted c.loop.invariant.shifts ∙ sym (after_next r c.loop.counter);
    }
