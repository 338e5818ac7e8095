-- `constituent::by_bytes` meets its contract. The invariant: the entries of the bytes below 2 to the power `bit` are right. Assumes nothing.
use mathlib.Core.Path.{◌≡◌, ap, ◌∙◌}
use mathlib.Core.List.{List}
use Prim.Native.Nat.{ℕ, ◌+◌, ◌*◌, ◌^◌, ◌≤◌}
use native.Mathlib.Nat.{pow-suc}
use native.Mathlib.Numerals.{add-one}
use native.Mathlib.Omega.{arith}
use lib.ListN.{get_or}
use lib.Pow.{pow_mono}
use lib.Seq.{get_or-set_same}
use Rattle.bits.proofs.ListLaws.{get_or-written}
use Rattle.constituent.specs.Loops.Bytes.{byte_word}
use Rattle.constituent.proofs.ByteLaws.{word-zero}
use Rattle.constituent.proofs.by_bytes.Goals as goal

pub loop-bit-init : goal.loop-bit-init
loop-bit-init c b h =
    let z : b ≡ 0 = omega arith in
    rw z (get_or-set_same c.args.table.now 0 0 0 (omega arith) ∙ word-zero c.args.taps)

pub loop-bit-preserved : goal.loop-bit-preserved
loop-bit-preserved c b h =
    let i = c.loop-bit.bit in
    let twice : 2 ^ (i + 1) ≡ 2 * 2 ^ i = rw (add-one, pow-suc 2 i) (omega arith) in
    let few : 2 ^ i ≤ 128 = pow_mono {i = i} {j = 7} (omega arith) in
    ap (λ (t : List ℕ). get_or t b 0) c.double.ensures ∙ get_or-written _ (byte_word c.args.taps 0) _ b 0 (omega arith)
