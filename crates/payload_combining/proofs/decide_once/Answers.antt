-- `payload_combining::decide_once` meets its contract: the two runs are all items. Assumes nothing.
use mathlib.Core.Path.{sym}
use native.Mathlib.Omega.{arith}
use Rattle.payload_combining.proofs.OnceLaws.{full, pad-within, data-length, pad-length, decided-written}
use Rattle.payload_combining.proofs.decide_once.Goals as goal

pub slice_bounds-decide_ones-end : goal.slice_bounds-decide_ones-end
slice_bounds-decide_ones-end c =
    sym (data-length c.args.l c.requires.0 c.requires.1 c.args.items.now c.requires.2)

pub decide_ones-requires : goal.decide_ones-requires
decide_ones-requires c =
    omega (arith, data-length c.args.l c.requires.0 c.requires.1 c.args.items.now c.requires.2, c.requires.3)

pub slice_bounds-decide_twos-count : goal.slice_bounds-decide_twos-count
slice_bounds-decide_twos-count c =
    omega (arith, full c.args.l c.requires.0 c.requires.1, c.requires.2)

pub slice_bounds-decide_twos-start : goal.slice_bounds-decide_twos-start
slice_bounds-decide_twos-start c =
    omega (arith, full c.args.l c.requires.0 c.requires.1, c.requires.2)

pub decide_twos-requires : goal.decide_twos-requires
decide_twos-requires c =
    let long = pad-length c.args.l c.requires.0 c.requires.1 c.args.items.now c.requires.2 in
    let within = pad-within c.args.l c.requires.0 c.requires.1 in
    (omega (arith, long, within, full c.args.l c.requires.0 c.requires.1, c.requires.2), omega (arith, long, within, c.requires.3))

pub returns : goal.returns
returns c =
    decided-written c.args.l c.requires.0 c.requires.1 c.args.items.now c.requires.2 _ _ _ c.requires.3
    c.decide_ones.ensures c.decide_twos.ensures
