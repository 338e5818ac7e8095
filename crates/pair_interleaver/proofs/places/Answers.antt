-- `pair_interleaver::places` meets its contract: a turn stores one row. Assumes nothing.
use Rattle.std.proofs.Common.{◌≡◌, ◌+◌, ◌-◌, ◌*◌, ◌≤◌, length, ◌∙◌, rules, arith}
use Rattle.bits.proofs.ListLaws.{part-more}
use Rattle.bits.proofs.NumberLaws.{row_next, row_within}
use Rattle.pair_interleaver.specs.Loops.Gather.{place_in}
use Rattle.pair_interleaver.proofs.GatherLaws.{row-place}
use Rattle.pair_interleaver.proofs.places.Goals as goal

pub loop-r-preserved : goal.loop-r-preserved
loop-r-preserved c =
    let starts = c.args.starts.now in
    let n = length starts in
    let r = c.loop-r.r in
    let few : r * n + n - r * n ≡ n = omega arith in
    let next = row_next r n in
    let within : r * n + n ≤ length c.loop-r.out = omega (arith, row_within r n 4 c.loop-r-test.true) in
    let long : length c.moved_up.new.out ≡ n = search rules in
    rw (next, few)
    (part-more (r * n) n c.loop-r.out _ (place_in starts) 0 within long c.loop-r.invariant
    (λ k h. c.moved_up.ensures k (omega arith) ∙ row-place starts r k h))
