-- `bits::gather` meets its contract. Assumes nothing.
use mathlib.Core.Path.{◌≡◌, refl, ap, ◌∙◌}
use Prim.Native.Nat.{ℕ, ◌+◌, ◌*◌}
use native.Mathlib.Omega.{arith}
use lib.ListN.{get_or}
use Rattle.bits.specs.Loops.Words.{word_byte}
use Rattle.bits.proofs.WordLaws.{joined-byte}
use Rattle.bits.proofs.gather.Goals as goal

pub returns : goal.returns
returns c k h =
    let from = c.args.from.now in
    let byte = λ (i : ℕ). (c.type_inv.from i).fits in
    let first : c.args.at ≡ 0 * c.args.apart + c.args.at = omega arith in
    let second : c.args.apart + c.args.at ≡ 1 * c.args.apart + c.args.at = omega arith in
    ap (λ (w : ℕ). word_byte w k) c.from_le_bytes.ensures
    ∙ joined-byte (λ k. get_or from (k * c.args.apart + c.args.at) 0) _ _ _ _ (byte _) (byte _) (byte _) (byte _)
    (ap (λ (i : ℕ). get_or from i 0) first) (ap (λ (i : ℕ). get_or from i 0) second) refl refl k h
