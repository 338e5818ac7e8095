-- `turbo::pair_of` meets its contract. Assumes nothing.
use mathlib.Core.Path.{◌∙◌}
use native.Mathlib.Omega.{arith}
use Rattle.constituent.proofs.PairLaws.{pair_read}
use Rattle.turbo.proofs.pair_of.Goals as goal

pub returns : goal.returns
returns c = (c.pair_in.ensures ∙ pair_read _ _, omega (arith, c.pair_in.ensures))
