-- `diversity::Symbols::copy_items` meets its contract. The invariant: the items of the symbols passed, n of them, are written. Assumes nothing.
use Rattle.std.proofs.Common.{◌≡◌, length, get_or}
use Rattle.bits.specs.Lists.{written}
use Rattle.diversity.specs.Lanes.{lane_bit}
use Rattle.diversity.proofs.Symbols.copy_items.Given as goal

abbrev pub invariant-loop-run : goal.invariant-loop-run
invariant-loop-run l =
    (l.run-iterator.symbols ≡ l.self) × (length l.out ≡ length l.initial.out)
    × (l.out ≡ written l.run-iterator.item (λ k. get_or l.coded (lane_bit l.self.carriers l.self.offsets.now k) 0) l.initial.out)
