-- `tester::hplc_card_text` meets its contract. Assumes nothing.
use Rattle.tester.proofs.CallLaws.{returned}
use Rattle.tester.proofs.hplc_card_text.Goals as goal

pub returns : goal.returns
returns c =
    returned _ c.card_text-answer.result _ _ _ c.card_text-answer.ensures.answer c.card_text-answer.ensures.bytes c.report.ensures.number c.report.ensures.values
