-- `columns::columns_by_bits` meets its contract. Assumes nothing.
use mathlib.Core.Path.{◌≡◌, ap, ◌∙◌}
use mathlib.Core.List.{List}
use Prim.Native.Nat.{ℕ, ◌*◌, ◌/◌, ◌<◌}
use native.Mathlib.Omega.{arith}
use lib.ListN.{get_or}
use Rattle.bits.proofs.ListLaws.{get_or-written}
use Rattle.columns.specs.Columns.{unrowed}
use Rattle.bits.proofs.BitLaws.{bytes-ext}
use Rattle.columns.proofs.ColumnLaws.{unrowed-lt}
use Rattle.columns.proofs.columns_by_bits.Goals as goal
use Rattle.columns.proofs.columns_by_bits.Goals.{After-take_elements}

-- the elements of the columns, in the local array
held : (c : After-take_elements)
    → let a = c.args in
    (i : ℕ) → i < 4 * a.height → get_or c.take_elements.new.out i 0 ≡ unrowed a.height (λ j. get_or a.rows.now j 0) i
held c i h =
    let a = c.args in
    ap (λ (l : List ℕ). get_or l i 0) c.take_elements.ensures ∙ get_or-written (4 * a.height) (unrowed a.height (λ j. get_or a.rows.now j 0)) _ i 0 h

pub pack-requires-clause-by_index : goal.pack-requires-clause-by_index
pack-requires-clause-by_index c =
    λ i h. rw (held (goal.at.pack-requires-clause-by_index c).After-take_elements i (omega arith)) (unrowed-lt c.args.height (λ j. get_or c.args.rows.now j 0) c.requires.by_index i (omega arith))

pub returns : goal.returns
returns c =
    let a = c.args in
    c.pack.ensures
    ∙ bytes-ext (a.height / 2) _ (unrowed a.height (λ j. get_or a.rows.now j 0)) (λ i h. held (goal.at.returns c).After-take_elements i (omega arith)) a.out.now
