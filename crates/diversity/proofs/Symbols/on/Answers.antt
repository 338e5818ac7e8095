-- `diversity::Symbols::on` meets its contract: a band's carriers and symbols are few. Assumes nothing.
use Rattle.std.proofs.Common.{arith}
use Rattle.bands.proofs.BandLaws.{carriers-below, symbols-few, offset-count}
use Rattle.diversity.proofs.BandLaws.{band-items}
use Rattle.diversity.proofs.Symbols.on.Goals as goal

pub invariant_of-result : goal.invariant_of-result
invariant_of-result c =
    let band = c.args.band.number in
    let defined = c.args.band.defined in
    record {
      narrow = omega (arith, c.carriers.ensures, carriers-below band defined);
      countable = rw (c.carriers.ensures, c.offsets.ensures) (omega (arith, band-items band defined));
    }

pub returns : goal.returns
returns c =
    let band = c.args.band.number in
    let defined = c.args.band.defined in
    record {
      same = (c.carriers.ensures, c.offsets.ensures);
      few = rw c.offsets.ensures (omega (arith, offset-count band defined, symbols-few band defined));
    }
