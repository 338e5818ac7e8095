-- `payload_copying::gather_by` meets its contract. Assumes nothing.
use native.Mathlib.Nat.{zero-mul}
use native.Mathlib.Omega.{arith}
use lib.ListN.{length}
use Rattle.bits.proofs.NumberLaws.{row_within}
use Rattle.bits.proofs.ListLaws.{written_none}
use Rattle.payload_copying.proofs.CarrierLaws.{gather-next}
use Rattle.payload_copying.proofs.gather_by.Goals as goal

pub loop-p-init : goal.loop-p-init
loop-p-init g c = rw (zero-mul g.row.BITS) (written_none _ _)

pub loop-p-preserved : goal.loop-p-preserved
loop-p-preserved g c =
    gather-next g.row.BITS c.loop-p.p _ _ _ _ _ _ c.from.ensures c.loop-p.invariant c.loop-p.auto.out
    (omega (arith, c.requires.room, row_within c.loop-p.p g.row.BITS (length c.args.order.now) c.loop-p-test.true)) c.copy_carrier.ensures
