-- `turbo::Encoder::next_kept` meets its contract. Assumes nothing.
use Rattle.turbo.proofs.PunctureLaws.{kept_from_lem}
use Rattle.turbo.proofs.Encoder.next_kept.Goals as goal

pub returns : goal.returns
returns c = kept_from_lem c.args.self.rate c.args.from c.args.self.rate_in_range c.requires
