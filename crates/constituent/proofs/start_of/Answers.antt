-- `constituent::start_of` meets its contract, by a test at every kind and state. Assumes nothing.
use Prim.Native.Nat.{◌*◌, ◌/◌, ◌%◌}
use lib.ListN.{get_or}
use lib.Bits.{bit_xor}
use Rattle.bits.proofs.RangeLaws.{agree₂}
use Rattle.constituent.specs.Encoder.{plus, matrix, start_of}
use Rattle.constituent.proofs.start_of.Goals as goal

pub returns : goal.returns
unfolding start_of plus
returns c =
    agree₂ 5 8 (λ kind sn. bit_xor (sn / 4 % 2 * get_or (matrix kind) 0 0) (bit_xor (sn / 2 % 2 * get_or (matrix kind) 1 0) (sn % 2 * get_or (matrix kind) 2 0))) start_of tt
    c.args.kind c.args.sn c.requires.0 c.requires.1
