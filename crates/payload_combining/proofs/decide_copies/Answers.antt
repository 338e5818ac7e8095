-- `payload_combining::decide_copies` meets its contract. Assumes nothing.
use mathlib.Core.Path.{ap, ◌∙◌}
use Prim.Native.Nat.{ℕ}
use lib.ListN.{replicate}
use lib.Seq.{length-take-le}
use Rattle.votes.specs.Loops.Counters.{middle}
use Rattle.payload_combining.proofs.VoteLaws.{settled-all}
use Rattle.payload_combining.proofs.decide_copies.Goals as goal

pub count_slots-requires : goal.count_slots-requires
count_slots-requires c =
    rw c.of.ensures
    (c.requires.1, c.fill.ensures.after (λ y e. e) ∙ ap (λ (n : ℕ). replicate n middle) (length-take-le c.args.l.coded c.args.out.now c.requires.2))

pub returns : goal.returns
returns c =
    rw c.settle.ensures (settled-all c.args.l c.requires.0 c.args.items.now c.args.out.now _ (rw c.of.ensures at c.count_slots.ensures))
