-- `tester::hplc_slice` meets its contract. Assumes nothing.
use Rattle.tester.proofs.CallLaws.{returned}
use Rattle.tester.proofs.hplc_slice.Goals as goal

pub returns : goal.returns
returns c =
    returned _ c.slice_into-answer.result _ _ _ c.slice_into-answer.ensures.answer c.slice_into-answer.ensures.items c.report.ensures.number c.report.ensures.values
