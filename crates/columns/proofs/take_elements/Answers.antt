-- `columns::take_elements` meets its contract. The invariant: the elements of the first r rows are stored. Assumes nothing.
use mathlib.Core.Path.{◌≡◌, sym, ap, ◌∙◌}
use Prim.Native.Nat.{ℕ, ◌+◌, ◌*◌}
use native.Mathlib.Omega.{arith}
use lib.ListN.{get_or}
use Rattle.bits.proofs.StoreLaws.{stored-none}
use Rattle.columns.specs.Columns.{unrowed}
use Rattle.columns.proofs.ColumnLaws.{column-next, columns-all, unrowed-bit}
use Rattle.columns.proofs.take_elements.Goals as goal

pub loop-r-init : goal.loop-r-init
loop-r-init c = stored-none _ _ _

pub loop-r-preserved : goal.loop-r-preserved
loop-r-preserved c =
    let l = c.loop-r in
    let rows = c.args.rows.now in
    c.scatter.ensures
    ∙ column-next _ l.r _ (unrowed _ (λ j. get_or rows j 0)) _ _ l.invariant (λ k h.
    let q : k * 1 + 4 * l.r ≡ 4 * l.r + k = omega arith in
    c.gather.ensures k h ∙ ap (λ (i : ℕ). get_or rows i 0) q ∙ sym (unrowed-bit _ l.r k (λ j. get_or rows j 0) (omega arith)))

pub returns : goal.returns
returns c =
    let a = c.args in
    columns-all a.height (unrowed a.height (λ j. get_or a.rows.now j 0)) a.out.now _ _ c.loop-r.invariant (omega arith) (omega arith)
