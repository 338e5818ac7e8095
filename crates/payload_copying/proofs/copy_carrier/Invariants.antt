-- `payload_copying::copy_carrier` meets its contract. The invariant: the first e bits are copied. Assumes nothing.
use Rattle.payload_copying.specs.Loops.Slots.{Copied}
use Rattle.payload_copying.proofs.copy_carrier.Given as goal

abbrev pub invariant-loop-e : goal.invariant-loop-e
invariant-loop-e g l = Copied l.e l.src l.from l.to l.initial.out l.out
