-- `columns::rows_by_bits` meets its contract. Assumes nothing.
use mathlib.Core.Path.{ap, ◌∙◌}
use mathlib.Core.List.{List}
use Prim.Native.Nat.{ℕ, ◌*◌}
use native.Mathlib.Omega.{arith}
use lib.ListN.{length, get_or}
use Rattle.bits.specs.Bits.{bit_of}
use Rattle.bits.proofs.ListLaws.{written-ext, get_or-written}
use Rattle.columns.proofs.RowLaws.{rowed-ext}
use Rattle.columns.proofs.rows_by_bits.Goals as goal

pub returns : goal.returns
returns c =
    let a = c.args in
    c.put_elements.ensures
    ∙ written-ext (4 * a.height) _ _ a.out.now
    (rowed-ext a.height _ (bit_of a.bytes.now) (λ i h.
    ap (λ (l : List ℕ). get_or l i 0) c.unpack.ensures
    ∙ get_or-written (8 * length a.bytes.now) (bit_of a.bytes.now) _ i 0 (omega arith)))
