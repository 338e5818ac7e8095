-- `fec::encode` meets its contract: each array has room for the rows. Assumes nothing.
use native.Mathlib.Omega.{arith}
use Rattle.interleaver_shape.proofs.ShapeLaws.{coded-le}
use Rattle.fec.proofs.CodingLaws.{frame-coded, short-coded}
use Rattle.fec.proofs.encode.Goals as goal

pub encode_by-requires-clause-rate_in_bounds : goal.encode_by-requires-clause-rate_in_bounds
encode_by-requires-clause-rate_in_bounds c =
    (frame-coded c.args.coding.kind c.args.coding.rate c.args.coding.defined c.in-0.is, omega arith, c.requires.1)

pub encode_by-requires-in-1-clause-rate_in_bounds : goal.encode_by-requires-in-1-clause-rate_in_bounds
encode_by-requires-in-1-clause-rate_in_bounds c =
    (short-coded c.args.coding.kind c.args.coding.rate c.args.coding.defined (omega arith), omega arith, c.requires.1)

pub encode_by-requires-in_default-clause-rate_in_bounds : goal.encode_by-requires-in_default-clause-rate_in_bounds
encode_by-requires-in_default-clause-rate_in_bounds c =
    (coded-le c.args.coding.kind c.args.coding.rate c.args.coding.defined, omega arith, c.requires.1)
