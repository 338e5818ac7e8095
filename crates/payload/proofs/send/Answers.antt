-- `payload::send` meets its contract: the card decides, and then what is behind it. Assumes nothing.
use Rattle.std.proofs.lemmas.Result.{err_from_is_err_and}
use mathlib.Core.Path.{sym, ap, ◌∙◌}
use mathlib.Core.List.{List}
use Prim.Native.Nat.{ℕ}
use Rattle.refusal.specs.Outcome.{Outcome}
use Rattle.refusal.specs.Report.{answer}
use Rattle.card.proofs.GateLaws.{gate-served}
use Rattle.payload.proofs.EntryLaws.{send-refused, send-passed}
use Rattle.payload.proofs.send.Goals as goal

pub send_by-requires : goal.send_by-requires
send_by-requires c =
    let e = sym c.served_card.ensures ∙ ap answer c.in_ok-c.was in
    gate-served 1 4 _ c.in_ok-c.c e

pub returns-in_err-c : goal.returns-in_err-c
returns-in_err-c c =
    let e = sym c.served_card.ensures ∙ ap answer c.in_err-c.was in
    let law = sym (send-refused c.args.card.now c.args.block.now c.args.out.now c.in_err-c.field-0.0 e) in
    let p = err_from_is_err_and c.from_residual.result c.from_residual.ensures.1 in
    record {
      answer = rw (p.1, p.2) (ap (λ (o : Outcome ℕ (List ℕ)). o.report) law);
      items = ap (λ (o : Outcome ℕ (List ℕ)). o.out) law;
    }

pub returns : goal.returns
returns c =
    let e = sym c.served_card.ensures ∙ ap answer c.in_ok-c.was in
    let law = sym (send-passed c.args.card.now c.args.block.now c.args.out.now c.in_ok-c.c e) in
    record {
      answer = c.send_by.ensures.answer ∙ ap (λ (q : Outcome ℕ (List ℕ)). q.report) law;
      items = c.send_by.ensures.items ∙ ap (λ (q : Outcome ℕ (List ℕ)). q.out) law;
    }
