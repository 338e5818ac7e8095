-- `payload_copying::Slots::place_after` meets its contract. Assumes nothing.
use mathlib.Core.Path.{◌∙◌}
use Prim.Native.Nat.{◌/◌}
use native.Mathlib.Omega.{arith}
use Rattle.address_interleaver.proofs.RoundLaws.{shift-next}
use Rattle.payload_copying.proofs.Slots.place_after.Goals as goal

pub returns-then-position-symbols : goal.returns-then-position-symbols
returns-then-position-symbols c =
    let L = c.args.self.now.layout in
    let p = c.args.p in (
      record {
        position_in = omega arith;
        group-is = c.next_place.ensures.0 ∙ shift-next L.symbols (p.copy / L.run) p.position p.group c.requires.0.group-is;
      },
      omega arith,
    )
