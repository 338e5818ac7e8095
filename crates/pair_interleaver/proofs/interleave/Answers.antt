-- `pair_interleaver::interleave` meets its contract: a turn stores the bytes of four rows. Assumes nothing.
use Rattle.std.proofs.Common.{◌≡◌, ◌+◌, ◌-◌, ◌*◌, ◌/◌, ◌≤◌, length, refl, ◌∙◌, rules, arith}
use Rattle.bits.proofs.ListLaws.{part-more}
use Rattle.bits.proofs.NumberLaws.{row_next, row_within}
use Rattle.constituent.specs.Loops.Bytes.{four_from}
use Rattle.pair_interleaver.specs.Loops.Gather.{by_rows}
use Rattle.pair_interleaver.proofs.GatherLaws.{place-lt, rows-byte}
use Rattle.pair_interleaver.proofs.interleave.Goals as goal

pub loop-r-preserved : goal.loop-r-preserved
loop-r-preserved c =
    let places = c.args.places.now in
    let list = c.args.list.now in
    let n = length c.args.out.now in
    let w = length places / 4 in
    let r = c.loop-r.r in
    let few : r * w + w - r * w ≡ w = omega arith in
    let next = row_next r w in
    let within : r * w + w ≤ n = omega (arith, row_within r w (n / w) c.loop-r-test.true, c.requires.rows) in
    let low : 4 * (n - r * w) - 3 * w + 3 * w ≤ 4 * n = omega arith in
    let long : length c.gather.new.out ≡ w = search rules in
    rw (next, few)
    (part-more (r * w) w c.loop-r.out _ (four_from (by_rows places list n)) 0 (omega arith) long c.loop-r.invariant
    (λ j h. c.gather.ensures j (omega arith) ∙ rows-byte places list n r (r * w) refl _ j h (place-lt places list c.args.out.now c.requires _ low)))
