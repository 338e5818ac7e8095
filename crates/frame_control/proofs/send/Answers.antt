-- `frame_control::send` meets its contract: the card is judged first. Assumes nothing.
use mathlib.Core.Path.{sym, ap, ◌∙◌}
use native.Mathlib.Omega.{arith}
use Rattle.std.proofs.lemmas.Result.{err_from_is_err_and}
use Rattle.refusal.specs.Report.{answer}
use Rattle.card.proofs.GateLaws.{gate-served}
use Rattle.frame_control.proofs.EntryLaws.{send-refused, send-passed}
use Rattle.frame_control.proofs.send.Goals as goal

pub overflow_cast-c : goal.overflow_cast-c
overflow_cast-c c =
    let e = sym c.served_card.ensures ∙ ap answer c.in_ok-c.was in
    omega (arith, (gate-served 0 0 c.args.card.now _ e).taps-lt)

pub symbols_of-requires : goal.symbols_of-requires
symbols_of-requires c =
    let e = sym c.served_card.ensures ∙ ap answer c.in_ok-c.was in
    gate-served 0 0 c.args.card.now _ e

pub returns-in_err-c : goal.returns-in_err-c
returns-in_err-c c =
    let p = err_from_is_err_and c.from_residual.result c.from_residual.ensures.1 in
    let a = c.args in
    let e = sym c.served_card.ensures ∙ ap answer c.in_err-c.was in
    let refused = sym (send-refused a.card.now a.word.now a.out.now c.in_err-c.field-0.0 e) in
    record {
      answer = rw (p.1, p.2) (ap (λ o. o.report) refused);
      items = ap (λ o. o.out) refused;
    }

pub returns : goal.returns
returns c =
    let a = c.args in
    let e = sym c.served_card.ensures ∙ ap answer c.in_ok-c.was in
    let passed = sym (send-passed a.card.now a.word.now a.out.now _ e) in
    record {
      answer = (rw (c.symbols_of.ensures.same.0, c.symbols_of.ensures.same.1) at c.send_by.ensures.answer) ∙ ap (λ o. o.report) passed;
      items = (rw (c.symbols_of.ensures.same.0, c.symbols_of.ensures.same.1) at c.send_by.ensures.items) ∙ ap (λ o. o.out) passed;
    }
