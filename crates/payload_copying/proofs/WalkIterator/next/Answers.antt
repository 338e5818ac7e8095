-- `payload_copying::WalkIterator::next` meets its contract: at the end all items are passed. Assumes nothing.
use mathlib.Core.Path.{refl}
use native.Mathlib.Omega.{arith}
use Rattle.payload_copying.proofs.SymbolLaws.{symbol_at, copy_in, walk-end}
use Rattle.payload_copying.proofs.WalkIterator.next.Goals as goal

pub returns-then-self-clause-steps : goal.returns-then-self-clause-steps
returns-then-self-clause-steps c =
    let w = c.args.self.now in
    let s = w.slots.now in
    (refl, walk-end s.layout s.slotted w.place (symbol_at s.layout w.place) w.lane w.start w.walking c.if-self.true)

pub after-requires : goal.after-requires
after-requires c =
    let w = c.args.self.now in
    let s = w.slots.now in
    omega (arith, copy_in s.layout s.slotted w.place (symbol_at s.layout w.place) w.lane w.start w.walking, c.if-self.false)
