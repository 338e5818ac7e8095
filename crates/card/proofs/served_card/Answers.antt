-- `card::served_card` meets its contract: reading decides, and then the kind. Assumes nothing.
use mathlib.Core.Path.{sym, ap, ◌∙◌}
use Rattle.std.proofs.lemmas.Result.{err_from_is_err_and}
use borrow.Author.Tests.{le-leb, lt-leb}
use Rattle.refusal.specs.Report.{answer}
use Rattle.card.proofs.GateLaws.{refused-alike, other-kind, served-kind}
use Rattle.card.proofs.served_card.Goals as goal
use Rattle.card.proofs.served_card.Goals.{then-c-first-via-then-c-first, then-c-first-via-else-c-first+then-last-c}

pub returns-then-c-first : goal.returns-then-c-first
returns-then-c-first c =
    let e = sym c.read_card.ensures ∙ ap answer c.in_ok-c.was in
    elim c.then-c-first.branch [
      | then-c-first-via-then-c-first w ↦ sym (other-kind _ _ _ _ e (simp (lt-leb _ _ w.if-c-first.true)))
      | then-c-first-via-else-c-first+then-last-c w ↦
          sym (other-kind _ _ _ _ e (simp (le-leb _ _ w.if-c-first.false, lt-leb _ _ w.if-last-c.true)))
    ]

pub returns-in_err-c : goal.returns-in_err-c
returns-in_err-c c =
    let p = err_from_is_err_and c.from_residual.result c.from_residual.ensures.1 in
    let e = sym c.read_card.ensures ∙ ap answer c.in_err-c.was in
    rw (p.1, p.2) (sym (refused-alike _ _ _ c.in_err-c.field-0.0 e))

pub returns : goal.returns
returns c =
    let e = sym c.read_card.ensures ∙ ap answer c.in_ok-c.was in
    sym (served-kind _ _ _ _ e (simp (le-leb _ _ c.if-c-first.false, le-leb _ _ c.if-last-c.false)))
