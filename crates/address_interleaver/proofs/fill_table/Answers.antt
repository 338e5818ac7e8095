-- `address_interleaver::fill_table` meets its contract: each turn stores the addresses of one interleaver. Assumes nothing.
use Rattle.std.proofs.Common.{◌≡◌, ◌+◌, ◌-◌, ◌*◌, ◌≤◌, length, sym, ◌∙◌, rules, arith}
use Rattle.bits.proofs.NumberLaws.{row_next, row_within}
use Rattle.bits.proofs.ListLaws.{part-more, part-kept, written_of}
use Rattle.address_interleaver.specs.Loops.Table.{address_of}
use Rattle.address_interleaver.proofs.WalkLaws.{address-at}
use Rattle.address_interleaver.proofs.fill_table.Goals as goal

pub loop-k-preserved : goal.loop-k-preserved
loop-k-preserved c =
    let k = c.loop-k.k in
    let span = c.args.span in
    let at = k * span in
    let f = address_of c.args.interleavers span c.args.step in
    let few : at + span - at ≡ span = omega arith in
    let next = row_next k span in
    let within : at + span ≤ length c.loop-k.out = omega (arith, row_within k span c.args.count c.loop-k-test.true) in
    let long : length c.fill_interleaver.new.out ≡ span = search rules in
    let lent = sym c.fill_interleaver.auto.out ∙ long in
    record {
      stored = rw (next, few)
          (part-more at span c.loop-k.out _ f 0 within long c.loop-k.invariant.stored
          (λ i h. rw lent at (c.fill_interleaver.ensures i (omega arith)) ∙ address-at c.args.interleavers span c.args.step k i h));
      kept = rw (next, few) (λ u h. part-kept at span c.loop-k.out _ 0 within long u h ∙ c.loop-k.invariant.kept u (omega arith));
    }

pub returns : goal.returns
returns c =
    let e : c.loop-k.k ≡ c.args.count = omega arith in
    written_of _ _ 0 _ _ c.requires.5 c.loop-k.auto.out (rw e at c.loop-k.invariant.stored) (rw e at c.loop-k.invariant.kept)
