-- What is judged of a call. Assumes nothing.
use Rattle.std.proofs.Common.{◌≡◌, sym, ap, ◌∙◌, Bool, List, ℕ}
use mathlib.Core.Path.{ap₂}
use Rattle.refusal.specs.Report.{Report}
use Rattle.refusal.specs.Outcome.{Outcome}
use Rattle.record.specs.declared.Record.{Record}
use Rattle.record.specs.declared.Given.{Given}
use Rattle.record.specs.Expected.{compared}
use Rattle.record_calls.specs.Calls.{judged}

-- by the output that the call was shown and the one that it left
pub judged_by : {A : Type 0} (r : Record) (entry : List A → Outcome ℕ (List A)) (held : List A → Bool) (start shown left made : List A) (report : Report ℕ)
    (g : Given) → shown ≡ start → report ≡ (entry shown).report → left ≡ (entry shown).out → left ≡ made → g ≡ compared r report (held made)
    → g ≡ judged r (entry start) held
judged_by r entry held start shown left made report g s e m l q =
    q ∙ ap₂ (λ p out. compared r p (held out)) (e ∙ ap (λ out. (entry out).report) s) (sym l ∙ m ∙ ap (λ out. (entry out).out) s)
