-- `frame_control::send_by` meets its contract: each return is a row of its table. Assumes nothing.
use native.Mathlib.Omega.{arith}
use borrow.Author.Tests.{lt-ltb, le-ltb, eq-eqb, ne_eqb}
use Rattle.interleaver_shape.proofs.ShapeLaws.{coded-half}
use Rattle.frame_control.specs.Entries.{send_by}
use Rattle.frame_control.proofs.EntryLaws.{items-sent}
use Rattle.frame_control.proofs.send_by.Goals as goal

pub returns-then-word-ne16 : goal.returns-then-word-ne16
unfolding send_by
returns-then-word-ne16 c =
    let other = ne_eqb _ 16 c.if-word-ne16.true in
    record {
      answer = simp other;
      items = simp other;
    }

pub returns-then-out-needed : goal.returns-then-out-needed
unfolding send_by
returns-then-out-needed c =
    let long = eq-eqb _ _ c.if-word-ne16.false in
    let needed = c.item_count-needed.ensures in
    let short = lt-ltb _ _ (rw needed at c.if-out-needed.true) in
    record {
      answer = rw needed (simp (long, short));
      items = simp (long, short);
    }

pub encode-requires : goal.encode-requires
encode-requires c = (c.if-word-ne16.false, omega (arith, coded-half 0 (omega arith)))

pub returns : goal.returns
unfolding send_by
returns c =
    let long = eq-eqb _ _ c.if-word-ne16.false in
    let needed = c.item_count-needed.ensures in
    let room = le-ltb _ _ (rw needed at c.if-out-needed.false) in
    record {
      answer = simp (long, room, needed);
      items = simp (long, room) (items-sent _ _ _ _ _ _ _ _ c.encode.ensures c.copy_items.ensures);
    }
