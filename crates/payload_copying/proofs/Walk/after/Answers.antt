-- `payload_copying::Walk::after` meets its contract: a lane further, or a symbol. Assumes nothing.
use native.Mathlib.Omega.{arith}
use Rattle.payload_copying.proofs.SymbolLaws.{symbol_at, walk-room, walk-next, walk-row, carries-next, carries-row}
use Rattle.payload_copying.proofs.Walk.after.Goals as goal

pub overflow_add-start : goal.overflow_add-start
overflow_add-start c =
    let w = c.args.self.now in
    let s = w.slots.now in
    omega (
      arith,
      c.group_bits.ensures,
      walk-room s.layout s.slotted w.place (symbol_at s.layout w.place) w.lane w.start w.walking c.requires,
      s.slotted.laid.small.items-in,
    )

pub invariant_of-result : goal.invariant_of-result
invariant_of-result c =
    let w = c.args.self.now in
    let s = w.slots.now in
    let y = symbol_at s.layout w.place in
    record {
      walking = rw c.group_bits.ensures
          (walk-next s.layout s.slotted w.place y w.lane w.start w.walking c.requires c.place_after-place.result
          c.place_after-place.ensures.0 c.place_after-place.ensures.1 c.if-lane-slots.true);
    }

pub returns-then-lane-slots-clause-carries : goal.returns-then-lane-slots-clause-carries
returns-then-lane-slots-clause-carries c =
    let w = c.args.self.now in
    let s = w.slots.now in
    let y = symbol_at s.layout w.place in
    rw c.group_bits.ensures (carries-next s.layout s.slotted w.place y w.lane w.start w.walking c.requires)

pub overflow_add-result : goal.overflow_add-result
overflow_add-result c =
    let w = c.args.self.now in
    let s = w.slots.now in
    let y = symbol_at s.layout w.place in
    let slot = carries-row s.layout s.slotted w.place y w.lane w.start w.walking c.requires c.if-lane-slots.false _ c.unused_bits.ensures in
    omega (arith, c.group_bits.ensures, slot.end_in, s.slotted.laid.small.items-in)

pub invariant_of-result-2 : goal.invariant_of-result-2
invariant_of-result-2 c =
    let w = c.args.self.now in
    let s = w.slots.now in
    let y = symbol_at s.layout w.place in
    record {
      walking = rw c.group_bits.ensures
          (walk-row s.layout s.slotted w.place y w.lane w.start w.walking c.requires c.place_after-place.result
          c.place_after-place.ensures.0 c.place_after-place.ensures.1 c.if-lane-slots.false _ c.unused_bits.ensures);
    }

pub returns-clause-carries : goal.returns-clause-carries
returns-clause-carries c =
    let w = c.args.self.now in
    let s = w.slots.now in
    let y = symbol_at s.layout w.place in
    rw c.group_bits.ensures (carries-row s.layout s.slotted w.place y w.lane w.start w.walking c.requires c.if-lane-slots.false _ c.unused_bits.ensures)
