-- `bits::add_bytes` meets its contract. The invariant: the first i bytes are written. Assumes nothing.
use mathlib.Core.Path.{ap, ◌∙◌}
use mathlib.Core.List.{List}
use Prim.Native.Nat.{ℕ}
use native.Mathlib.Omega.{arith}
use lib.Bits.{bit_xor, xor_comm}
use lib.ListN.{get_or}
use Rattle.bits.proofs.ListLaws.{get_or-kept, written_none, written_next}
use Rattle.bits.proofs.add_bytes.Goals as goal

pub loop-i-init : goal.loop-i-init
loop-i-init c = written_none _ _

pub loop-i-preserved : goal.loop-i-preserved
loop-i-preserved c =
    let l = c.loop-i in
    let byte = get_or c.args.bytes.now l.i 0 in
    let kept = ap (λ (s : List ℕ). get_or s l.i 0) l.invariant ∙ get_or-kept l.i _ _ l.i 0 (omega arith) in
    written_next _ _ _ _ _ l.invariant (omega arith) (xor_comm (get_or l.out l.i 0) byte ∙ ap (bit_xor byte) kept)
