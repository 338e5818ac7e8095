-- `tester::hplc_card_move` meets its contract. Assumes nothing.
use Rattle.tester.proofs.CallLaws.{returned}
use Rattle.tester.proofs.hplc_card_move.Goals as goal

pub returns : goal.returns
returns c =
    returned _ c.move_card-answer.result _ _ _ c.move_card-answer.ensures.answer c.move_card-answer.ensures.bytes c.report.ensures.number c.report.ensures.values
