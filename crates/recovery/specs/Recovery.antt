-- From decided coded bits back to a block's bytes, refusal 7 or refusal 8. A decided bit is 0 or 1, or 2 where it has no strict majority.
-- Assumes nothing.
use Rattle.std.specs.Prelude.{not, List, [], ◌∷◌, ◌++◌, ℕ, ◌+◌, eqb, ltb, drop}
use Rattle.bits.specs.Lists.{lowest}
use Rattle.bits.specs.Bits.{bytes_of}
use Rattle.bits.specs.Sums.{count}
use Rattle.refusal.specs.declared.Refusal.TheVariants.{Majority, Parity}
use Rattle.refusal.specs.Outcome.{Row, row, Outcome, outcome}
use Rattle.card.specs.Modes.{block_bytes}
use Rattle.turbo.specs.Puncture.{kept_count}
use Rattle.turbo.specs.Parity.{kept_bit}
use Rattle.interleaver_shape.specs.Shapes.{coded_bits}
use Rattle.interleaver.specs.Source.{coded_at}
use Rattle.fec.specs.Coding.{data_bits}

-- data bit k and kept parity bit i, as the coded bits e were decided
unfoldable pub data_bit : ℕ → ℕ → (ℕ → ℕ) → ℕ → ℕ
data_bit kind rate e k = e (coded_at kind rate k)

unfoldable pub parity_bit : ℕ → ℕ → (ℕ → ℕ) → ℕ → ℕ
parity_bit kind rate e i = e (coded_at kind rate (data_bits kind + i))

-- the lowest coded bit without a strict majority, or the number of coded bits where each has one
unfoldable pub first_undecided : ℕ → ℕ → (ℕ → ℕ) → ℕ
first_undecided kind rate e = lowest (coded_bits kind rate) (λ i. ltb 1 (e i))

-- how many kept parity bits, computed again from the decided data bits, are not as they were decided
unfoldable pub disagreeing : ℕ → ℕ → ℕ → (ℕ → ℕ) → ℕ
disagreeing kind rate taps e =
    count (kept_count kind rate) (λ i. not (eqb (kept_bit kind rate taps (data_bit kind rate e) i) (parity_bit kind rate e i)))

-- the rows about decided bits: 7 with the lowest bit that has no majority, and 8 with the count of parity bits that disagree
abbrev pub recover_rows : ℕ → ℕ → ℕ → (ℕ → ℕ) → List Row
recover_rows kind rate taps e =
    row (ltb (first_undecided kind rate e) (coded_bits kind rate)) (Majority (first_undecided kind rate e))
    ∷ row (ltb 0 (disagreeing kind rate taps e)) (Parity (disagreeing kind rate taps e))
    ∷ []

-- what the decided coded bits e come to, and what is left in the lent memory: the block's bytes at its start, or all of it kept
unfoldable pub recovered : ℕ → ℕ → ℕ → (ℕ → ℕ) → List ℕ → Outcome ℕ (List ℕ)
recovered kind rate taps e out =
    outcome (recover_rows kind rate taps e) out (block_bytes kind) (bytes_of (block_bytes kind) (data_bit kind rate e) ++ drop (block_bytes kind) out)
