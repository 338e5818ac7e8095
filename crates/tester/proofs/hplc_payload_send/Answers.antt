-- `tester::hplc_payload_send` meets its contract. Assumes nothing.
use Rattle.tester.proofs.CallLaws.{returned}
use Rattle.tester.proofs.hplc_payload_send.Goals as goal

pub returns : goal.returns
returns c =
    returned _ c.send-answer.result _ _ _ c.send-answer.ensures.answer c.send-answer.ensures.items c.report.ensures.number c.report.ensures.values
