-- `payload::read` meets its contract: the card decides, and then what is behind it. Assumes nothing.
use Rattle.std.proofs.lemmas.Result.{err_from_is_err_and}
use mathlib.Core.Path.{sym, ap, ◌∙◌}
use mathlib.Core.List.{List}
use Prim.Native.Nat.{ℕ}
use Rattle.refusal.specs.Outcome.{Outcome}
use Rattle.refusal.specs.Report.{answer}
use Rattle.card.proofs.GateLaws.{gate-served}
use Rattle.payload.proofs.EntryLaws.{read-refused, read-passed}
use Rattle.payload.proofs.read.Goals as goal

pub read_by-requires : goal.read_by-requires
read_by-requires c =
    let e = sym c.served_card.ensures ∙ ap answer c.in_ok-c.was in
    gate-served 1 4 _ c.in_ok-c.c e

pub returns-in_err-c : goal.returns-in_err-c
returns-in_err-c c =
    let e = sym c.served_card.ensures ∙ ap answer c.in_err-c.was in
    let law = sym (read-refused c.args.card.now c.args.items.now c.args.out.now c.in_err-c.field-0.0 e) in
    let p = err_from_is_err_and c.from_residual.result c.from_residual.ensures.1 in
    record {
      answer = rw (p.1, p.2) (ap (λ (o : Outcome ℕ (List ℕ)). o.report) law);
      bytes = ap (λ (o : Outcome ℕ (List ℕ)). o.out) law;
    }

pub returns : goal.returns
returns c =
    let e = sym c.served_card.ensures ∙ ap answer c.in_ok-c.was in
    let law = sym (read-passed c.args.card.now c.args.items.now c.args.out.now c.in_ok-c.c e) in
    record {
      answer = c.read_by.ensures.answer ∙ ap (λ (q : Outcome ℕ (List ℕ)). q.report) law;
      bytes = c.read_by.ensures.bytes ∙ ap (λ (q : Outcome ℕ (List ℕ)). q.out) law;
    }
