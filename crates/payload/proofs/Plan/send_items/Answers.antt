-- `payload::Plan::send_items` meets its contract: the block is scrambled, its coded bits follow, and each item is a copy of one. Assumes nothing.
use mathlib.Core.Path.{sym, ◌∙◌}
use native.Mathlib.Omega.{arith}
use Rattle.fec.proofs.CodingLaws.{few_bytes}
use Rattle.payload.proofs.BufferLaws.{scrambled-length, scrambled-room, scrambled-bits, part_length, part_room, coded-fits, coded-written, items-written}
use Rattle.payload.proofs.Plan.send_items.Goals as goal

pub scramble-requires : goal.scramble-requires
scramble-requires c =
    omega (arith, c.requires.1, few_bytes c.args.self.now.coding.kind c.args.self.now.coding.defined.kind-lt)

pub slice_bounds-scrambled-end : goal.slice_bounds-scrambled-end
slice_bounds-scrambled-end c =
    scrambled-room c.args.block.now _ _ c.scramble.ensures

pub slice_bounds-encode-end : goal.slice_bounds-encode-end
slice_bounds-encode-end c =
    sym (scrambled-length c.args.block.now _ _ c.scramble.ensures)

pub encode-requires : goal.encode-requires
encode-requires c =
    let fits = coded-fits c.args.self.now.layout c.args.self.now.coding.kind c.args.self.now.coding.rate c.args.self.now.coding.taps c.requires.0 in
    (scrambled-length c.args.block.now _ _ c.scramble.ensures ∙ c.requires.1, omega (arith, fits, c.requires.0.count))

pub slice_bounds-coded-end : goal.slice_bounds-coded-end
slice_bounds-coded-end c =
    part_room _ _ _ _ (coded-written c.args.self.now.layout c.args.self.now.coding.kind c.args.self.now.coding.rate c.args.self.now.coding.taps c.requires.0 _ _ _ c.encode.ensures)

pub slice_bounds-lay_out-end : goal.slice_bounds-lay_out-end
slice_bounds-lay_out-end c =
    sym (part_length _ _ _ _ (coded-written c.args.self.now.layout c.args.self.now.coding.kind c.args.self.now.coding.rate c.args.self.now.coding.taps c.requires.0 _ _ _ c.encode.ensures))

pub lay_out-requires : goal.lay_out-requires
lay_out-requires c =
    (c.requires.0.laid, part_length _ _ _ _ (coded-written c.args.self.now.layout c.args.self.now.coding.kind c.args.self.now.coding.rate c.args.self.now.coding.taps c.requires.0 _ _ _ c.encode.ensures), c.requires.2)

pub returns : goal.returns
returns c =
    c.lay_out.ensures
    ∙ items-written c.args.self.now.layout c.args.self.now.coding.kind c.args.self.now.coding.rate c.args.self.now.coding.taps c.requires.0 _ c.args.block.now _ _ c.args.out.now
    (λ k h. scrambled-bits c.args.block.now _ _ c.scramble.ensures k (omega (arith, c.requires.1)))
    (coded-written c.args.self.now.layout c.args.self.now.coding.kind c.args.self.now.coding.rate c.args.self.now.coding.taps c.requires.0 _ _ _ c.encode.ensures)
