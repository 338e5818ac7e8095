-- Outcomes block by block: an entry's own rows in the table's order, and then the rows of its blocks, the lowest block's first. Assumes
-- nothing.
use Rattle.std.specs.Prelude.{List, [], ◌++◌, ℕ, zero, suc}
use Rattle.refusal.specs.Report.{done, refusal}
use Rattle.refusal.specs.Outcome.{Row, first_applicable, in_order, row_order, Outcome}

-- by rows in the order given: a refusal keeps what was lent; where no row applies, the answer and what was made (the laws of `refusal` have it
-- too, but specs/ cannot cite them)
abbrev pub outcome_by : {A B : Type 0} → List Row → B → A → B → Outcome A B
outcome_by rows out a made = first_applicable rows (λ r. record { report = refusal r; out = out }) (record { report = done a; out = made })

-- the rows of n blocks, the lowest block's first
abbrev pub blockwise : ℕ → (ℕ → List Row) → List Row
blockwise zero rows = []
blockwise (suc n) rows = blockwise n rows ++ rows n

-- by the table's order, and then block by block, so that a lower block's 8 goes before a higher one's 7
abbrev pub outcome_blockwise : {A B : Type 0} → List Row → ℕ → (ℕ → List Row) → B → A → B → Outcome A B
outcome_blockwise rows n block_rows out a made = outcome_by (in_order row_order rows ++ blockwise n block_rows) out a made
