-- `payload_blocks::encode_block` meets its contract: the block is scrambled, and its coded bits follow. Assumes nothing.
use mathlib.Core.Path.{sym, ◌∙◌}
use native.Mathlib.Omega.{arith}
use Rattle.fec.proofs.CodingLaws.{few_bytes}
use Rattle.payload_blocks.proofs.BufferLaws.{scrambled-length, scrambled-room, coded-written}
use Rattle.payload_blocks.proofs.encode_block.Goals as goal

pub scramble-requires : goal.scramble-requires
scramble-requires c =
    omega (arith, c.requires.0, few_bytes c.args.coding.kind c.args.coding.defined.kind-lt)

pub slice_bounds-scrambled-end : goal.slice_bounds-scrambled-end
slice_bounds-scrambled-end c =
    scrambled-room c.args.block.now _ _ c.scramble.ensures

pub slice_bounds-encode-end : goal.slice_bounds-encode-end
slice_bounds-encode-end c =
    sym (scrambled-length c.args.block.now _ _ c.scramble.ensures)

pub encode-requires : goal.encode-requires
encode-requires c =
    (scrambled-length c.args.block.now _ _ c.scramble.ensures ∙ c.requires.0, c.requires.1)

pub returns : goal.returns
returns c =
    c.encode.ensures
    ∙ coded-written c.args.block.now _ _ c.scramble.ensures c.args.coding.kind c.args.coding.rate c.args.coding.defined c.args.coding.taps c.requires.0 c.args.out.now
