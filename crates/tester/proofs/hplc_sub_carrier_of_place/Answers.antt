-- `tester::hplc_sub_carrier_of_place` meets its contract. Assumes nothing.
use mathlib.Core.Path.{◌∙◌}
use borrow.Author.Rules.{rules}
use Rattle.tester.proofs.CallLaws.{reported, sub-carrier-number}
use Rattle.tester.proofs.hplc_sub_carrier_of_place.Goals as goal

pub returns : goal.returns
returns c = reported _ c.map.result _ _ (sub-carrier-number c.sub_carrier_of-sub_carrier.result c.map.result (search rules) ∙ c.sub_carrier_of-sub_carrier.ensures) c.report.ensures.number c.report.ensures.values
