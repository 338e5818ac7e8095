-- `constituent::double` meets its contract. The invariant: half + i entries are what they shall be. Assumes nothing.
use mathlib.Core.Path.{◌≡◌, ap, ap₂, ◌∙◌}
use mathlib.Core.List.{List}
use Prim.Native.Nat.{ℕ, ◌+◌}
use native.Mathlib.Omega.{arith}
use lib.Bits.{bit_xor}
use lib.ListN.{get_or}
use Rattle.bits.proofs.ListLaws.{written_same, get_or-written, written_next, written_all}
use Rattle.constituent.specs.Loops.Bytes.{byte_word}
use Rattle.constituent.proofs.ByteLaws.{half_le, doubled-at}
use Rattle.constituent.proofs.double.Goals as goal

pub loop-i-init : goal.loop-i-init
loop-i-init c =
    written_same (c.args.half + 0) (byte_word c.args.taps 0) 0 c.args.table.now (omega (arith, half_le c.args.taps c.args.half c.args.table.now c.requires)) (λ k h. c.requires.low k (omega arith))

pub loop-i-preserved : goal.loop-i-preserved
loop-i-preserved c =
    let f : ℕ → ℕ = byte_word c.args.taps 0 in
    let v : get_or c.loop-i.table c.loop-i.i 0 ≡ f c.loop-i.i = ap (λ (t : List ℕ). get_or t c.loop-i.i 0) c.loop-i.invariant ∙ get_or-written _ f _ c.loop-i.i 0 (omega (arith, c.loop-i-test.true)) in
    written_all _ _ f _ _
    (written_next _ _ f _ _ c.loop-i.invariant (omega (arith, half_le c.args.taps c.args.half c.args.table.now c.requires)) (ap₂ bit_xor v c.byte_word-top.ensures ∙ doubled-at _ _ c.loop-i.i _ c.requires (omega (arith, c.loop-i-test.true))))
    (omega arith)
