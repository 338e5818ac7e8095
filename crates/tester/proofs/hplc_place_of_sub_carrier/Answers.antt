-- `tester::hplc_place_of_sub_carrier` meets its contract. Assumes nothing.
use mathlib.Core.Path.{◌∙◌}
use borrow.Author.Rules.{rules}
use Rattle.tester.proofs.CallLaws.{reported, place-number}
use Rattle.tester.proofs.hplc_place_of_sub_carrier.Goals as goal

pub returns : goal.returns
returns c = reported _ c.map.result _ _ (place-number c.place_of-place.result c.map.result (search rules) ∙ c.place_of-place.ensures) c.report.ensures.number c.report.ensures.values
