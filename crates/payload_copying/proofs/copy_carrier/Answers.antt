-- `payload_copying::copy_carrier` meets its contract. Assumes nothing.
use native.Mathlib.Omega.{arith}
use Rattle.payload_copying.proofs.CarrierLaws.{copied_none, copied_next}
use Rattle.payload_copying.proofs.copy_carrier.Goals as goal

pub loop-e-init : goal.loop-e-init
loop-e-init g c = copied_none _ _ _ _

pub loop-e-preserved : goal.loop-e-preserved
loop-e-preserved g c = copied_next _ _ _ _ _ _ c.loop-e.invariant (omega arith)
