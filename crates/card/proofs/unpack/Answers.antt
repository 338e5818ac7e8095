-- `card::unpack` meets its contract: each field from the head, and the serial behind it. Assumes nothing.
use native.Mathlib.Omega.{arith}
use lib.ListN.{length}
use Rattle.card.proofs.CardLaws.{unpacked, length-either}
use Rattle.card.proofs.unpack.Goals as goal

pub head_of-head-requires : goal.head_of-head-requires
head_of-head-requires c = (length-either (length c.args.card.now) c.requires).0

pub overflow_sub-card : goal.overflow_sub-card
overflow_sub-card c = omega (arith, length-either (length c.args.card.now) c.requires)

pub number_at-serial-requires : goal.number_at-serial-requires
number_at-serial-requires c = (omega arith, omega (arith, length-either (length c.args.card.now) c.requires))

pub returns : goal.returns
returns c =
    unpacked c.args.card.now c.head_of-head.result c.number_at-serial.result c.copy_count.result
    c.head_of-head.ensures c.number_at-serial.ensures c.copy_count.ensures c.requires
