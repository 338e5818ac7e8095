-- `payload_copying::Slots::order` meets its contract. Assumes nothing.
use mathlib.Core.Path.{ap}
use Prim.Native.Nat.{ℕ, ◌*◌}
use native.Mathlib.Omega.{arith}
use Rattle.payload_copying.proofs.SlottedLaws.{order-within}
use Rattle.payload_copying.proofs.SlotLaws.{order-made}
use Rattle.payload_copying.proofs.Slots.order.Goals as goal

pub slice_bounds-result-end : goal.slice_bounds-result-end
slice_bounds-result-end c =
    let s = c.args.self.now in
    omega (arith, order-within s.layout s.slotted c.args.copy c.requires, c.group_carriers-size.ensures, ap (λ (n : ℕ). c.args.copy * n) c.group_carriers-size.ensures)

pub returns : goal.returns
returns c =
    let s = c.args.self.now in
    order-made s.layout s.slotted c.args.copy c.requires s.table s.addresses _ _ (omega (arith, c.group_carriers-size.ensures))
    (ap (λ (n : ℕ). c.args.copy * n) c.group_carriers-size.ensures)
