-- `text::hex` meets its contract. The invariant: the digits of the first k bytes are written. Assumes nothing.
use native.Mathlib.Omega.{arith}
use Rattle.bits.proofs.ListLaws.{written_none}
use Rattle.text.proofs.TextLaws.{hex-written}
use Rattle.text.proofs.hex.Goals as goal

pub loop-k-init : goal.loop-k-init
loop-k-init c = written_none _ _

pub loop-k-preserved : goal.loop-k-preserved
loop-k-preserved c = hex-written c.args.bytes.now _ _ _ c.args.out.now _ (omega arith) c.loop-k.invariant c.hex_digit.ensures c.hex_digit-in-loop-k.ensures
