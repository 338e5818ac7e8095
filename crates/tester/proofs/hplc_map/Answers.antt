-- `tester::hplc_map` meets its contract. Assumes nothing.
use Rattle.tester.proofs.CallLaws.{returned}
use Rattle.tester.proofs.hplc_map.Goals as goal

pub returns : goal.returns
returns c =
    returned _ c.map_into-answer.result _ _ _ c.map_into-answer.ensures.answer c.map_into-answer.ensures.point c.report.ensures.number c.report.ensures.values
