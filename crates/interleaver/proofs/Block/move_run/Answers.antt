-- `interleaver::Block::move_run` meets its contract. Assumes nothing.
use mathlib.Core.Path.{◌≡◌, refl, sym, ap, ◌∙◌}
use Prim.Native.Nat.{ℕ, ◌+◌, ◌*◌, ◌<◌}
use native.Mathlib.Omega.{arith}
use Rattle.interleaver_shape.specs.Shapes.{coded_of}
use Rattle.interleaver.specs.Loops.RowOrder.{row_of}
use Rattle.interleaver.proofs.WalkLaws.{pass_on}
use Rattle.interleaver.proofs.PairLaws.{Pair, parity-is, pair-at, same-rotation}
use Rattle.interleaver.proofs.NibbleLaws.{carried_none, carried-join, carried-one}
use Rattle.interleaver.proofs.Block.move_run.Given.{Over}
use Rattle.interleaver.proofs.Block.move_run.Goals as goal
use Rattle.interleaver.proofs.Block.move_run.Goals.{In-loop-at}

-- the pair that comes next, and that its nibbles are within the block
next : (g : Over) (c : In-loop-at g)
    → Pair c.args.self.now.shape c.loop-at.invariant.runs.place c.loop-at.at.row
    × (coded_of c.args.self.now.shape ≡ c.args.self.now.shape.rows * 8) × (c.loop-at.at.nibble + 1 < c.args.self.now.shape.rows * 2)
    × (c.loop-at.at.row < c.args.self.now.shape.rows) × (c.args.apart + c.loop-at.at.row < c.args.self.now.shape.rows * 2)
next g c =
    let l = c.args.self.now.shape in
    let at = c.loop-at.invariant.runs in
    let row : c.loop-at.at.row < l.rows = omega (arith, c.requires.1.end-le) in
    let pair = pair-at l c.args.self.now.orderly c.requires.1.paired at.place c.loop-at.at.row c.loop-at.at.pass at.on-pass at.pass-lt row in (
      pair,
      omega (arith, parity-is l c.args.self.now.orderly c.requires.1.paired),
      omega (arith, pair.2, at.nibble-is),
      row,
      omega (arith, pair.3, c.requires.1.apart-is c.loop-at.at.row c.loop-at.invariant.down c.loop-at-test.true),
    )

pub loop-at-init : goal.loop-at-init
loop-at-init g c =
    record {
      runs = c.requires.1.runs;
      up = omega arith;
      down = omega arith;
      same-pass = refl;
      moved = carried_none _ _ _ _ _;
    }

pub move_word-requires : goal.move_word-requires
move_word-requires g c =
    let (pair, coded, n, row, first) = next g (goal.at.move_word-requires g c).In-loop-at in
    (refl, record { coded-from = omega arith; coded-to = omega arith; row_from = omega arith; row-to = omega arith })

pub move_word-requires-in-loop-at : goal.move_word-requires-in-loop-at
move_word-requires-in-loop-at g c =
    let (pair, coded, n, row, first) = next g (goal.at.move_word-requires-in-loop-at g c).In-loop-at in
    let runs = c.loop-at.invariant.runs in
    (same-rotation _ runs.place runs.nibble-is, record { coded-from = omega arith; coded-to = omega arith; row_from = omega arith; row-to = omega arith })

pub overflow_add-at-in-loop-at : goal.overflow_add-at-in-loop-at
overflow_add-at-in-loop-at g c = omega (arith, (next g (goal.at.overflow_add-at-in-loop-at g c).In-loop-at).2, c.args.self.now.small)

pub loop-at-preserved : goal.loop-at-preserved
loop-at-preserved g c =
    let l = c.args.self.now.shape in
    let n = c.loop-at.at.nibble in
    let i = c.loop-at.invariant in
    let p = i.runs.place in
    let two : n + 1 + 1 ≡ n + 2 = omega arith in
    let ((first, second, below, moved), coded, m, within, past) = next g (goal.at.loop-at-preserved g c).In-loop-at in
    let row : c.loop-at.at.row ≡ row_of l n = first ∙ ap (row_of l) (sym i.runs.nibble-is) in
    let parity : c.args.apart + c.loop-at.at.row ≡ row_of l (n + 1) =
    c.requires.1.apart-is c.loop-at.at.row i.down c.loop-at-test.true ∙ second ∙ ap (λ (k : ℕ). row_of l (k + 1)) (sym i.runs.nibble-is) in
    record {
      runs = record {
        place = p + 1;
        nibble-is = omega (arith, i.runs.nibble-is);
        pass-lt = i.runs.pass-lt;
        on-pass = pass_on l.rows l.step c.args.self.now.orderly.step-pos p c.loop-at.at.pass c.loop-at.at.row i.runs.on-pass within;
      };
      up = omega arith;
      down = omega arith;
      same-pass = i.same-pass;
      moved = carried-join _ _ _ c.args.start.nibble (n + 1) (n + 2) _ _ _
          (carried-join _ _ _ c.args.start.nibble n (n + 1) _ _ _ i.moved (carried-one l _ _ n c.loop-at.at.row _ _ row c.move_word.ensures) i.up (omega arith))
          (rw two at (carried-one l _ _ (n + 1) (c.args.apart + c.loop-at.at.row) _ _ parity c.move_word-in-loop-at.ensures))
          (omega arith) (omega arith);
    }
