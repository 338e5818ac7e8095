-- `payload_copying::Slots::unused_bits` meets its contract. Assumes nothing.
use mathlib.Core.Path.{ap}
use Prim.Native.Nat.{ℕ, ◌*◌}
use native.Mathlib.Omega.{arith}
use Rattle.payload_copying.proofs.SlottedLaws.{symbol-few}
use Rattle.payload_copying.proofs.SymbolLaws.{used-bits}
use Rattle.payload_copying.proofs.Slots.unused_bits.Goals as goal

pub overflow_mul-result : goal.overflow_mul-result
overflow_mul-result c = let s = c.args.self.now in omega (arith, symbol-few s.layout s.slotted)

pub overflow_sub-result : goal.overflow_sub-result
overflow_sub-result c =
    let s = c.args.self.now in
    omega (arith, ap (λ (n : ℕ). s.layout.copies * n) c.group_bits.ensures, used-bits s.layout s.slotted)
