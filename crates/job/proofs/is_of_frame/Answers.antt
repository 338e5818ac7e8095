-- `job::is_of_frame` meets its contract: by what the gate of payload says of the card. Assumes nothing.
use mathlib.Core.Path.{◌≡◌, refl, sym, ap, ◌∙◌}
use Rattle.std.specs.Prelude.{Result, Ok, Err, is_err}
use Rattle.refusal.specs.declared.Refusal.{Refusal}
use Rattle.refusal.specs.Report.{answer}
use Rattle.refusal.proofs.OutcomeLaws.{refused_as}
use Rattle.card.specs.declared.Card.{Card}
use Rattle.job.specs.Jobs.{of_frame}
use Rattle.job.proofs.is_of_frame.Goals as goal

err-of-frame : (x : Result Card Refusal) → is_err x ≡ of_frame (answer x)
err-of-frame (Ok c) = refl
err-of-frame (Err r) = sym (refused_as of_frame r).1

pub returns : goal.returns
returns c = c.is_err.ensures.value ∙ err-of-frame _ ∙ ap of_frame c.served_card.ensures
