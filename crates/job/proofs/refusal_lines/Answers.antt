-- `job::refusal_lines` meets its contract: two lines, one behind the other. Assumes nothing.
use mathlib.Core.Path.{ap, ap₂, ◌∙◌}
use mathlib.Core.List.{List, ◌++◌}
use Prim.Native.Nat.{ℕ}
use native.Mathlib.Omega.{arith}
use lib.ListN.{length, length-append, get_or}
use Rattle.text.specs.Text.{ascii, decimal, line}
use Rattle.job.specs.Jobs.{refusal_lines}
use Rattle.job.proofs.JobLaws.{number_short}
use Rattle.job.proofs.refusal_lines.Goals as goal

pub push_number-requires-2 : goal.push_number-requires-2
push_number-requires-2 c =
    let short = number_short (ascii "refused") c.from.result in
    (omega arith, omega (arith, short, ap length c.push_number.ensures, ap length c.new-text.ensures, length-append {A = ℕ}))

pub returns : goal.returns
unfolding refusal_lines
returns c =
    let first =
    c.push_number.ensures
    ∙ ap₂ (λ (t : List ℕ) (n : ℕ). t ++ line (ascii "refused") (decimal n)) c.new-text.ensures (c.from.ensures ∙ c.report-number.ensures.number) in
    c.push_number-2.ensures
    ∙ ap₂ (λ (t : List ℕ) (v : ℕ). t ++ line (ascii "value") (decimal v)) first (ap (λ (l : List ℕ). get_or l 0 0) c.report-number.ensures.values)
