-- `card::read_fields` meets its contract: each return is a row of its table. Assumes nothing.
use mathlib.Core.Path.{sym, ap, ◌∙◌}
use Rattle.std.proofs.lemmas.Result.{err_from_is_err_and}
use borrow.Author.Tests.{lt-ltb, le-ltb}
use Rattle.refusal.specs.Report.{answer}
use Rattle.card.proofs.FieldLaws.{fields-refused, fields_read}
use Rattle.card.proofs.read_fields.Goals as goal

pub returns-then-fields-lt10 : goal.returns-then-fields-lt10
returns-then-fields-lt10 c =
    let e = sym c.read_card.ensures ∙ ap answer c.in_ok-c.was in
    let read = fields_read _ c.args.fields.now _ e in
    let short = lt-ltb _ _ c.if-fields-lt10.true in
    record {
      answer = simp short at (ap (λ o. o.report) (sym read));
      fields = simp short at (ap (λ o. o.out) (sym read));
    }

pub returns-in_err-c : goal.returns-in_err-c
returns-in_err-c c =
    let p = err_from_is_err_and c.from_residual.result c.from_residual.ensures.1 in
    let e = sym c.read_card.ensures ∙ ap answer c.in_err-c.was in
    let refused = sym (fields-refused _ c.args.fields.now c.in_err-c.field-0.0 e) in
    record {
      answer = rw (p.1, p.2) (ap (λ o. o.report) refused);
      fields = ap (λ o. o.out) refused;
    }

pub returns : goal.returns
returns c =
    let e = sym c.read_card.ensures ∙ ap answer c.in_ok-c.was in
    let read = fields_read _ c.args.fields.now _ e in
    let room = le-ltb _ _ c.if-fields-lt10.false in
    record {
      answer = simp room at (ap (λ o. o.report) (sym read));
      fields = c.put_fields.ensures ∙ (simp room at (ap (λ o. o.out) (sym read)));
    }
