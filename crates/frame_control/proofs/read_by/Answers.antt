-- `frame_control::read_by` meets its contract: each return is a row of its table. Assumes nothing.
use mathlib.Core.Path.{sym, ap, ◌∙◌}
use mathlib.Core.Bool.{not}
use native.Mathlib.Omega.{arith}
use lib.ListN.{length}
use borrow.Author.Tests.{lt-ltb, le-ltb, eq-eqb, ne_eqb}
use Rattle.bits.proofs.ListLaws.{length-tabulate}
use Rattle.interleaver_shape.proofs.ShapeLaws.{coded-half}
use Rattle.frame_control.specs.Entries.{read_by}
use Rattle.frame_control.proofs.EntryLaws.{read-decided}
use Rattle.frame_control.proofs.read_by.Goals as goal

pub returns-then-items-item_count : goal.returns-then-items-item_count
unfolding read_by
returns-then-items-item_count c =
    let other = ne_eqb _ _ (rw c.item_count.ensures at c.if-items-item_count.true) in
    record {
      answer = simp other;
      word = simp other;
    }

pub returns-then-out-lt16 : goal.returns-then-out-lt16
unfolding read_by
returns-then-out-lt16 c =
    let long = eq-eqb _ _ (rw c.item_count.ensures at c.if-items-item_count.false) in
    let short = lt-ltb (length c.args.out.now) 16 (omega (arith, c.if-out-lt16.true)) in
    record {
      answer = simp (long, short);
      word = simp (long, short);
    }

pub returns-in-Some : goal.returns-in-Some
unfolding read_by
returns-in-Some c =
    let long = eq-eqb _ _ (rw c.item_count.ensures at c.if-items-item_count.false) in
    let room = le-ltb _ 16 c.if-out-lt16.false in
    let first = c.in-Some.ensures.0 in
    let bad = lt-ltb _ _ (rw first at c.in-Some.ensures.1) in
    record {
      answer = rw first (simp (long, room, bad));
      word = simp (long, room, bad);
    }

pub recover-requires : goal.recover-requires
recover-requires c =
    let coded = coded-half 0 (omega arith) in
    (ap length c.decide-decided.ensures ∙ length-tabulate 256 _ ∙ sym coded, omega (arith, c.if-out-lt16.false))

pub returns : goal.returns
returns c =
    let a = c.args in
    let long = eq-eqb _ _ (rw c.item_count.ensures at c.if-items-item_count.false) in
    let room = le-ltb _ _ c.if-out-lt16.false in
    let legal = le-ltb _ _ c.in_default.ensures in
    let read = sym (read-decided a.symbols.now.carriers a.symbols.now.offsets.now a.taps a.items.now a.out.now _ (ap not long, (room, (legal, tt))) c.decide-decided.ensures) in
    record {
      answer = c.recover.ensures.answer ∙ ap (λ o. o.report) read;
      word = c.recover.ensures.bytes ∙ ap (λ o. o.out) read;
    }
