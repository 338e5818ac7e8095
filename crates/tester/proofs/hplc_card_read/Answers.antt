-- `tester::hplc_card_read` meets its contract. Assumes nothing.
use Rattle.tester.proofs.CallLaws.{returned}
use Rattle.tester.proofs.hplc_card_read.Goals as goal

pub returns : goal.returns
returns c =
    returned _ c.read_fields-answer.result _ _ _ c.read_fields-answer.ensures.answer c.read_fields-answer.ensures.fields c.report.ensures.number c.report.ensures.values
