-- `interleaver::Block::move_groups` meets its contract. The invariant: the data nibbles of the passes before this one, and the parity nibbles among
-- them, are carried. Assumes nothing.
use mathlib.Core.Path.{◌≡◌, sym, ap, ◌∙◌}
use Prim.Native.Nat.{ℕ, ◌+◌}
use native.Mathlib.Omega.{arith}
use lib.ListN.{length}
use Rattle.interleaver.specs.Rows.{passes, continuous_row}
use Rattle.interleaver.specs.Source.{data_place}
use Rattle.interleaver.specs.Loops.Stores.{flag, carried}
use Rattle.interleaver.proofs.WalkLaws.{passes-all, passes_none, continuous-start}
use Rattle.interleaver.proofs.StreamLaws.{counts_start, stream_end}
use Rattle.interleaver.proofs.NibbleLaws.{carried_none, carried-join}
use Rattle.interleaver.proofs.Block.move_groups.Given.{Over}
use Rattle.interleaver.proofs.Block.move_groups.Goals as goal
use Rattle.interleaver.proofs.Block.move_groups.Goals.{After-loop-pass}

-- past the last pass no data nibble is left
done : (g : Over) (c : After-loop-pass g)
    → data_place c.args.self.now.shape c.loop-pass.at.nibble ≡ c.args.self.now.shape.rows
done g c =
    let l = c.args.self.now.shape in
    let e : c.loop-pass.pass ≡ l.step = omega arith in
    c.loop-pass.invariant.place ∙ ap (λ (j : ℕ). length (passes l.rows l.step j)) e ∙ passes-all l.rows l.step c.args.self.now.orderly.step-pos

pub loop-pass-init : goal.loop-pass-init
loop-pass-init g c =
    let l = c.args.self.now.shape in
    let (places, rows, left) = counts_start l c.args.self.now.orderly in
    record {
      stands = record {
        within = omega arith;
        left_is = sym left;
        row_is = continuous-start l.parity l.step l.offset c.args.self.now.near.offset-lt
            ∙ ap (continuous_row l.parity l.step l.offset) (sym rows);
      };
      place = places ∙ passes_none l.rows l.step c.args.self.now.orderly.step-pos;
      moved = carried_none _ _ _ _ _;
    }

pub loop-pass-preserved : goal.loop-pass-preserved
loop-pass-preserved g c =
    let (up, stands, place) = c.move_pass-at.ensures.stands in
    record {
      stands = stands;
      place = place;
      moved = carried-join _ _ _ 0 c.loop-pass.at.nibble c.move_pass-at.result.nibble _ _ _ c.loop-pass.invariant.moved c.move_pass-at.ensures.moved (omega arith) up;
    }

pub returns-then-at-self : goal.returns-then-at-self
returns-then-at-self g c =
    let block = c.args.self.now in
    let n = c.loop-pass.at.nibble in
    let (is, last) = stream_end block.shape block.orderly n c.if-at-self.true (done g (goal.at.returns-then-at-self g c).After-loop-pass) in
    let e : c.move_parity.result.nibble ≡ n + 1 = rw is at c.move_parity.ensures.stands.0 in
    carried-join _ _ _ 0 n c.move_parity.result.nibble _ _ _ c.loop-pass.invariant.moved c.move_parity.ensures.moved (omega arith) (omega (arith, e))
    ∙ ap (λ (k : ℕ). carried block.shape (flag g.row.BACK) block.from.now 0 k c.args.to.now) (e ∙ last)

pub returns-else-at-self : goal.returns-else-at-self
returns-else-at-self g c =
    let block = c.args.self.now in
    let e : c.loop-pass.at.nibble ≡ block.shape.rows + block.shape.parity = omega (arith, c.loop-pass.invariant.stands.within) in
    c.loop-pass.invariant.moved ∙ ap (λ (k : ℕ). carried block.shape (flag g.row.BACK) block.from.now 0 k c.args.to.now) e
