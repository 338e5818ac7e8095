-- `interleaver::Block::move_parity` meets its contract. Assumes nothing.
use mathlib.Core.Path.{◌≡◌, sym, ap, ◌∙◌}
use mathlib.Core.Bool.{true, false}
use Prim.Native.Nat.{◌+◌, ◌<◌}
use native.Mathlib.Omega.{arith}
use Rattle.interleaver.specs.Rows.{moved_row}
use Rattle.interleaver.specs.Source.{parity_row, group_of, is_parity}
use Rattle.interleaver.specs.Loops.RowOrder.{row_of}
use Rattle.interleaver.specs.Loops.Walks.{parity_place}
use Rattle.interleaver.proofs.SourceLaws.{row-continuous}
use Rattle.interleaver.proofs.RowLaws.{row-parity}
use Rattle.interleaver.proofs.WalkLaws.{continuous-next}
use Rattle.interleaver.proofs.StreamLaws.{parity-step, parity-due, data-due, parity-group}
use Rattle.interleaver.proofs.NibbleLaws.{carried_none, carried-one}
use Rattle.interleaver.proofs.Block.move_parity.Given.{Over}
use Rattle.interleaver.proofs.Block.move_parity.Goals as goal
use Rattle.interleaver.proofs.Block.move_parity.Goals.{Else-at-gt0}

-- a parity nibble is due: its place among the parity nibbles, and its row
due : (g : Over) (c : Else-at-gt0 g)
    → (is_parity c.args.self.now.shape c.args.at.nibble ≡ true)
    × (c.args.at.row ≡ parity_row c.args.self.now.shape (group_of c.args.self.now.shape c.args.at.nibble))
    × (c.args.at.row < c.args.self.now.shape.parity)
due g c =
    let l = c.args.self.now.shape in
    let n = c.args.at.nibble in
    let t : is_parity l n ≡ true = parity-due l c.args.self.now.orderly n (omega (arith, c.requires.2.left_is)) in
    let e =
    c.requires.2.row_is ∙ sym (row-continuous l (parity_place l n) c.requires.1) ∙ ap (parity_row l) (parity-group l c.args.self.now.orderly n t) in
    (t, e, omega (arith, c.requires.2.row_is, c.args.self.now.near))

pub returns-then-at-gt0 : goal.returns-then-at-gt0
returns-then-at-gt0 g c =
    let at = c.args.at in
    let t : is_parity c.args.self.now.shape at.nibble ≡ false =
    data-due c.args.self.now.shape c.args.self.now.orderly at.nibble (omega (arith, c.requires.2.left_is)) in
    record {
      stands = (rw t (omega arith), c.requires.2, c.if-at-gt0.true);
      moved = carried_none _ _ _ _ _;
    }

pub move_nibble-requires : goal.move_nibble-requires
move_nibble-requires g c =
    let row = (due g (goal.at.move_nibble-requires g c).Else-at-gt0).2 in
    record {
      coded-from = omega (arith, c.requires.3, c.args.self.now.whole);
      coded-to = omega (arith, c.requires.3, c.requires.0);
      row_from = omega (arith, c.args.self.now.whole);
      row-to = omega (arith, c.requires.0);
    }

pub moved_row-requires : goal.moved_row-requires
moved_row-requires g c =
    ((due g (goal.at.moved_row-requires g c).Else-at-gt0).2, c.args.self.now.near.step-le, c.args.self.now.small.parity-lt)

pub returns : goal.returns
returns g c =
    let l = c.args.self.now.shape in
    let at = c.args.at in
    let n = at.nibble in
    let (t, row, below) = due g (goal.at.returns g c).Else-at-gt0 in
    let (places, rows, left) = parity-step l c.args.self.now.orderly n t in
    let e : l.rows + at.row ≡ row_of l n = omega (arith, row, row-parity l n t) in
    record {
      stands = (
        rw t,
        record {
          within = omega arith;
          left_is = sym left;
          row_is = rw rows
              (c.moved_row.ensures.0 ∙ ap (moved_row l.parity l.step) c.requires.2.row_is
              ∙ continuous-next l.parity l.step l.offset (parity_place l n));
        },
        c.args.self.now.orderly.group-pos,
      );
      moved = carried-one l _ _ n (l.rows + at.row) _ _ e c.move_nibble.ensures;
    }
