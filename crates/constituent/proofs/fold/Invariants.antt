-- `constituent::fold` meets its contract. The invariant: 56 sums lead every encoder to where the chunks so far lead it, and zeros follow them.
-- Assumes nothing.
use Prim.Native.Nat.{◌*◌}
use lib.ListN.{length}
use Rattle.constituent.proofs.FoldLaws.{Folded}
use Rattle.constituent.proofs.fold.Given as goal

abbrev pub invariant-loop-chunk : goal.invariant-loop-chunk
invariant-loop-chunk l = Folded l.bytes (56 * length l.yielded) l.sums
