-- `bits::unpack` meets its contract. The invariant: the bits of the first k bytes are written. Assumes nothing.
use mathlib.Core.Path.{refl}
use Prim.Native.Nat.{◌*◌}
use native.Mathlib.Omega.{arith}
use lib.ListN.{length-take, length-drop}
use Rattle.bits.specs.Bits.{bit_of}
use Rattle.bits.specs.Lists.{tabulate}
use Rattle.bits.specs.Loops.Words.{nibble}
use Rattle.bits.proofs.BitLaws.{byte-bit}
use Rattle.bits.proofs.ListLaws.{written_none, written-part, written_all}
use Rattle.bits.proofs.unpack.Goals as goal

pub loop-k-init : goal.loop-k-init
loop-k-init c = written_none _ _

pub put_bits-requires : goal.put_bits-requires
unfolding tabulate nibble
put_bits-requires c = (refl, simp (length-take, length-drop) (omega arith))

pub loop-k-preserved : goal.loop-k-preserved
loop-k-preserved c =
    let bytes = c.args.bytes.now in
    let k = c.loop-k.k in
    written_all _ _ _ _ _
    (written-part (8 * k) 8 (bit_of bytes) _ _ _ _ c.loop-k.invariant (byte-bit bytes k) c.put_bits.ensures)
    (omega arith)
