-- `written_card::move_card` meets its contract: the version asked for, then reading, decides. Assumes nothing.
use mathlib.Core.Path.{sym, ap, ◌∙◌}
use Rattle.std.proofs.lemmas.Result.{err_from_is_err_and}
use Rattle.refusal.specs.Report.{answer}
use Rattle.written_card.specs.Loops.Fields.{put_card}
use Rattle.written_card.proofs.WriteLaws.{fits_in}
use Rattle.written_card.proofs.RowLaws.{move-no-version, move-refused, move_read, read_fits}
use Rattle.written_card.proofs.move_card.Goals as goal

pub returns-then-not-is_version : goal.returns-then-not-is_version
returns-then-not-is_version c =
    let law = move-no-version _ _ c.args.out.now (sym c.is_version.ensures ∙ c.if-not-is_version.true) in
    record {
      answer = c.no_version.ensures ∙ sym (ap (λ o. o.report) law);
      bytes = sym (ap (λ o. o.out) law);
    }

pub invariant_of-put : goal.invariant_of-put
invariant_of-put c =
    let is = sym c.is_version.ensures ∙ c.if-not-is_version.false in
    let e = sym c.read_card.ensures ∙ ap answer c.in_ok-c.was in
    record { fits = rw c.in_version-moved.ensures (fits_in _ _ is (read_fits _ _ e)) }

pub returns-in_err-c : goal.returns-in_err-c
returns-in_err-c c =
    let is = sym c.is_version.ensures ∙ c.if-not-is_version.false in
    let e = sym c.read_card.ensures ∙ ap answer c.in_err-c.was in
    let p = err_from_is_err_and c.from_residual.result c.from_residual.ensures.1 in
    let law = move-refused _ _ c.args.out.now is c.in_err-c.field-0.0 e in
    record {
      answer = rw (p.1, p.2) (sym (ap (λ o. o.report) law));
      bytes = sym (ap (λ o. o.out) law);
    }

pub returns : goal.returns
returns c =
    let is = sym c.is_version.ensures ∙ c.if-not-is_version.false in
    let e = sym c.read_card.ensures ∙ ap answer c.in_ok-c.was in
    let out = c.args.out.now in
    let law = ap (λ d. put_card d out) c.in_version-moved.ensures ∙ sym (move_read _ _ out is _ e) in
    record {
      answer = c.put.ensures.answer ∙ ap (λ o. o.report) law;
      bytes = c.put.ensures.bytes ∙ ap (λ o. o.out) law;
    }
