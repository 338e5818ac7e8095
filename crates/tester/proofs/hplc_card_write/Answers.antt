-- `tester::hplc_card_write` meets its contract. Assumes nothing.
use Rattle.tester.proofs.CallLaws.{returned}
use Rattle.tester.proofs.hplc_card_write.Goals as goal

pub returns : goal.returns
returns c =
    returned _ c.write_card-answer.result _ _ _ c.write_card-answer.ensures.answer c.write_card-answer.ensures.bytes c.report.ensures.number c.report.ensures.values
