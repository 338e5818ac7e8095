-- `bits::fill` meets its contract. Assumes nothing.
use mathlib.Core.Path.{ap, ◌∙◌}
use Prim.Native.Nat.{ℕ}
use lib.ListN.{replicate}
use lib.Seq.{length-take-le}
use Rattle.bits.proofs.ListLaws.{written-fill}
use Rattle.bits.proofs.fill.Goals as goal

pub returns : goal.returns
returns c =
    written-fill c.args.count c.args.value c.args.out.now c.fill.new.self
    (c.fill.ensures.after (λ y e. e) ∙ ap (λ (n : ℕ). replicate n c.args.value) (length-take-le c.args.count c.args.out.now c.requires))
