-- `fec::encode_by` meets its contract. Assumes nothing.
use mathlib.Core.Path.{refl, ◌∙◌}
use native.Mathlib.Omega.{arith}
use lib.ListN.{length-replicate}
use Rattle.fec.proofs.CodingLaws.{kept-most}
use Rattle.fec.proofs.RowLaws.{coded-written}
use Rattle.fec.proofs.encode_by.Goals as goal

pub source_rows-requires-clause-rate_in_bounds : goal.source_rows-requires-clause-rate_in_bounds
source_rows-requires-clause-rate_in_bounds g c =
    (omega (arith, kept-most c.args.coding.kind c.args.coding.rate c.args.coding.defined), rw length-replicate c.requires.rate_in_bounds.0)

pub returns : goal.returns
returns g c =
    c.interleave.ensures
    ∙ coded-written c.args.coding.kind c.args.coding.rate _ _ c.args.coding.defined refl refl c.args.coding.taps c.args.bytes.now _ _ c.args.out.now _ c.coded_bits-coded.ensures c.source_rows.ensures
