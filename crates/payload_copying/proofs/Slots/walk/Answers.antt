-- `payload_copying::Slots::walk` meets its contract. Assumes nothing.
use Rattle.payload_copying.proofs.SymbolLaws.{walk-first}
use Rattle.payload_copying.proofs.Slots.walk.Goals as goal

pub invariant_of-result : goal.invariant_of-result
invariant_of-result c =
    let s = c.args.self.now in
    record { walking = walk-first s.layout s.slotted c.first_place.result c.first_place.ensures.0 c.first_place.ensures.1 }
