-- `pair_interleaver::gather` meets its contract: what is picked is a pair. Assumes nothing.
use Rattle.std.proofs.Common.{◌+◌, ◌*◌, arith}
use Rattle.pair_interleaver.proofs.GatherLaws.{picked-pair}
use Rattle.pair_interleaver.proofs.gather.Goals as goal

pub four-requires : goal.four-requires
four-requires c =
    let i = c.loop-i.i in
    let pair = picked-pair _ _ _ c.requires in (
      pair (4 * i) _ (omega arith) c.pick.ensures,
      pair (4 * i + 1) _ (omega arith) c.pick-in-loop-i.ensures,
      pair (4 * i + 2) _ (omega arith) c.pick-in-loop-i-2.ensures,
      pair (4 * i + 3) _ (omega arith) c.pick-in-loop-i-3.ensures,
    )
