-- `bits::number_at` meets its contract. The invariant: the number in the bytes so far. Assumes nothing.
use mathlib.Core.Path.{◌≡◌, sym, ap, ◌∙◌}
use Prim.Native.Nat.{ℕ, ◌+◌, ◌-◌, ◌*◌, ◌^◌, ◌<◌}
use native.Mathlib.Omega.{arith}
use lib.ListN.{get_or, drop, length-take}
use lib.Seq.{get_or-take, get_or-drop}
use Rattle.bits.proofs.BitLaws.{field-none, field_room, field_next}
use Rattle.bits.proofs.number_at.Goals as goal
use Rattle.bits.proofs.number_at.Goals.{In-loop-byte, After-from}

-- the number leaves room for a byte
room : (c : In-loop-byte) → c.loop-byte.number < 2 ^ 56
room c =
    let at = c.loop-byte in
    let i : at.byte-index < c.args.n = omega (arith, length-take {A = ℕ}) in
    omega (arith, at.invariant, field_room c.args.bytes.now (8 * c.args.at) at.byte-index c.args.n i c.requires.0)

-- the byte that comes next
next : (c : After-from) → c.from.result ≡ get_or c.args.bytes.now (c.args.at + c.loop-byte.byte-index) 0
next c =
    let bytes = c.args.bytes.now in
    let at : ℕ = c.args.at in
    let i : ℕ = c.loop-byte.byte-index in
    let few : i < at + c.args.n - at = omega (arith, length-take {A = ℕ}) in
    c.from.ensures ∙ get_or-take (at + c.args.n - at) (drop at bytes) i 0 few ∙ get_or-drop at bytes i 0

pub loop-byte-init : goal.loop-byte-init
loop-byte-init c = sym (field-none c.args.bytes.now (8 * c.args.at))

pub overflow_mul-number : goal.overflow_mul-number
overflow_mul-number c = omega (arith, room c)

pub overflow_add-number : goal.overflow_add-number
overflow_add-number c = omega (arith, room (goal.at.overflow_add-number c).In-loop-byte, next c, c.type_inv.bytes (c.args.at + c.loop-byte.byte-index))

pub loop-byte-preserved : goal.loop-byte-preserved
loop-byte-preserved c =
    let at = c.loop-byte in
    let a = c.args in
    ap (λ (b : ℕ). at.number * 256 + b) (next c)
    ∙ field_next a.bytes.now (λ i. (c.type_inv.bytes i).fits) a.at at.byte-index at.number at.invariant
