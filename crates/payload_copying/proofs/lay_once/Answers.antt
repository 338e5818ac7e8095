-- `payload_copying::lay_once` meets its contract: the two runs are all items. Assumes nothing.
use mathlib.Core.Path.{sym}
use native.Mathlib.Omega.{arith}
use Rattle.payload_copying.proofs.OnceLaws.{full, pad-length, laid-once}
use Rattle.payload_copying.proofs.lay_once.Goals as goal

pub put-requires : goal.put-requires
put-requires c =
    omega (arith, full c.args.l c.requires.0 c.requires.1 c.args.coded.now c.requires.2, c.requires.2, c.requires.3)

pub slice_bounds-put-end : goal.slice_bounds-put-end
slice_bounds-put-end c =
    sym (pad-length c.args.l c.requires.0 c.requires.1 c.args.coded.now c.requires.2)

pub slice_bounds-put-count : goal.slice_bounds-put-count
slice_bounds-put-count c =
    omega (arith, full c.args.l c.requires.0 c.requires.1 c.args.coded.now c.requires.2, c.requires.3)

pub slice_bounds-put-start : goal.slice_bounds-put-start
slice_bounds-put-start c =
    omega (arith, full c.args.l c.requires.0 c.requires.1 c.args.coded.now c.requires.2, c.requires.3)

pub put-requires-2 : goal.put-requires-2
put-requires-2 c =
    omega (arith, pad-length c.args.l c.requires.0 c.requires.1 c.args.coded.now c.requires.2, full c.args.l c.requires.0 c.requires.1 c.args.coded.now c.requires.2, c.requires.3)

pub returns : goal.returns
returns c =
    laid-once c.args.l c.requires.0 c.requires.1 c.args.coded.now c.requires.2 _ _ _ c.put.ensures c.put-2.ensures
