-- `recovery::take_apart` meets its contract. Assumes nothing.
use mathlib.Core.Path.{refl, sym, ◌∙◌}
use Prim.Native.Nat.{◌*◌, ◌≤◌}
use native.Mathlib.Omega.{arith}
use lib.ListN.{length}
use lib.Seq.{length-take-le}
use Rattle.fec.proofs.CodingLaws.{few_bytes}
use Rattle.fec.proofs.RowLaws.{data-served, parity-served, kept-bytes, all-rows}
use Rattle.recovery.proofs.RowLaws.{rows_long, data-rows-binary, block_written, parity-rows-long, parity-rows-binary, parity-written}
use Rattle.recovery.proofs.PartLaws.{decided-binary}
use Rattle.recovery.proofs.take_apart.Goals as goal
use Rattle.recovery.proofs.take_apart.Goals.{After-deinterleave}

-- the data rows are among those that were put in order
long : (c : After-deinterleave) → 4 * c.data_rows-height.result ≤ length c.deinterleave.new.rows
long c =
    let e = c.data_rows-height.ensures in
    omega (
      arith,
      all-rows c.args.coding.kind c.args.coding.rate _ _ c.args.coding.defined e refl,
      rows_long c.args.coding.kind c.args.coding.rate _ _ c.args.coding.defined e refl c.args.decided.now _ _ c.requires.rate_in_bounds.0 c.deinterleave.ensures,
    )

pub overflow_mul-data : goal.overflow_mul-data
overflow_mul-data c = omega (arith, c.data_rows-height.ensures, few_bytes c.args.coding.kind c.args.coding.defined.kind-lt)

pub slice_bounds-from_rows-end : goal.slice_bounds-from_rows-end
slice_bounds-from_rows-end c = long (goal.at.slice_bounds-from_rows-end c).After-deinterleave

pub slice_bounds-from_rows-end-2 : goal.slice_bounds-from_rows-end-2
slice_bounds-from_rows-end-2 c = sym (length-take-le _ _ (long (goal.at.slice_bounds-from_rows-end-2 c).After-deinterleave))

pub from_rows-requires : goal.from_rows-requires
from_rows-requires c =
    let e = c.data_rows-height.ensures in
    let s = data-served c.args.coding.kind c.args.coding.rate _ _ c.args.coding.defined e refl in
    record {
      served_height = (s, length-take-le _ _ (long (goal.at.from_rows-requires c).After-deinterleave), omega (arith, e, c.requires.rate_in_bounds.1));
      by_index = data-rows-binary c.args.coding.kind c.args.coding.rate _ _ c.args.coding.defined e refl c.args.decided.now _ _ c.requires.rate_in_bounds.0 c.deinterleave.ensures (decided-binary _ _ _ c.requires.decided.0 c.requires.decided.1);
    }

pub slice_bounds-from_rows-count : goal.slice_bounds-from_rows-count
slice_bounds-from_rows-count c =
    omega (arith, c.requires.decided.0, all-rows c.args.coding.kind c.args.coding.rate _ _ c.args.coding.defined c.data_rows-height.ensures refl)

pub slice_bounds-from_rows-start : goal.slice_bounds-from_rows-start
slice_bounds-from_rows-start c =
    omega (arith, c.requires.decided.0, all-rows c.args.coding.kind c.args.coding.rate _ _ c.args.coding.defined c.data_rows-height.ensures refl)

pub from_rows-requires-2 : goal.from_rows-requires-2
from_rows-requires-2 c =
    let e = c.data_rows-height.ensures in
    let f = c.parity_rows.ensures in
    let s = parity-served c.args.coding.kind c.args.coding.rate _ _ c.args.coding.defined e f in
    let n = kept-bytes c.args.coding.kind c.args.coding.rate _ _ c.args.coding.defined e f in
    record {
      served_height = (s, rw c.requires.decided.0 (parity-rows-long c.args.coding.kind c.args.coding.rate _ _ c.args.coding.defined e f c.args.decided.now _ _ c.requires.rate_in_bounds.0 c.deinterleave.ensures), omega (arith, n.0, c.requires.rate_in_bounds.2));
      by_index = rw c.requires.decided.0 (parity-rows-binary c.args.coding.kind c.args.coding.rate _ _ c.args.coding.defined e f c.args.decided.now _ _ c.requires.rate_in_bounds.0 c.deinterleave.ensures (decided-binary _ _ _ c.requires.decided.0 c.requires.decided.1));
    }

pub returns : goal.returns
returns c =
    let e = c.data_rows-height.ensures in
    let f = c.parity_rows.ensures in
    record {
      block = c.from_rows.ensures ∙ block_written c.args.coding.kind c.args.coding.rate _ _ c.args.coding.defined e f c.args.decided.now _ _ c.requires.rate_in_bounds.0 c.deinterleave.ensures c.args.block.now;
      parity = rw c.requires.decided.0 at c.from_rows-2.ensures
          ∙ parity-written c.args.coding.kind c.args.coding.rate _ _ c.args.coding.defined e f c.args.decided.now _ _ c.requires.rate_in_bounds.0 c.deinterleave.ensures c.args.parity.now;
    }
