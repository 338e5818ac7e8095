-- `constituent::Encoder::new` meets its contract. The invariant: the numbers have the answers of the states from s on. Assumes nothing.
use mathlib.Core.Path.{ap, ◌∙◌}
use Prim.Native.Nat.{ℕ, ◌*◌, ◌+◌, ◌/◌, ◌%◌, ◌^◌, ◌<◌}
use native.Mathlib.Omega.{arith}
use Rattle.constituent.proofs.ByteLaws.{stacked-fits, stacked-next}
use Rattle.constituent.proofs.Encoder.new.Invariants.{after, gives}
use Rattle.constituent.proofs.Encoder.new.Goals as goal
use Rattle.constituent.proofs.Encoder.new.Goals.{After-byte_word-word}

-- there is room for a turn's state and for its parity bits
states-fit : (c : After-byte_word-word) → c.loop-s.states * 256 + c.byte_word-word.result % 256 < 2 ^ 64
states-fit c = stacked-fits (after c.args.taps) c.loop-s.s _ _ (omega arith) c.loop-s.invariant.0 (omega arith) (omega arith)

parities-fit : (c : After-byte_word-word) → c.loop-s.parities * 256 + c.byte_word-word.result / 256 < 2 ^ 64
parities-fit c = stacked-fits (gives c.args.taps) c.loop-s.s _ _ (omega arith) c.loop-s.invariant.1 (omega arith) (omega arith)

pub overflow_mul-states : goal.overflow_mul-states
overflow_mul-states c = omega (arith, states-fit (goal.at.overflow_mul-states c).After-byte_word-word)

pub overflow_add-states : goal.overflow_add-states
overflow_add-states c = omega (arith, states-fit (goal.at.overflow_add-states c).After-byte_word-word)

pub overflow_mul-parities : goal.overflow_mul-parities
overflow_mul-parities c = omega (arith, parities-fit (goal.at.overflow_mul-parities c).After-byte_word-word)

pub overflow_add-parities : goal.overflow_add-parities
overflow_add-parities c = omega (arith, parities-fit (goal.at.overflow_add-parities c).After-byte_word-word)

pub loop-s-preserved : goal.loop-s-preserved
loop-s-preserved c = (
  stacked-next (after c.args.taps) c.loop-s.s _ _ (omega arith) c.loop-s.invariant.0 (omega arith) (omega arith) (c.from.ensures ∙ ap (λ (w : ℕ). w % 256) c.byte_word-word.ensures),
  stacked-next (gives c.args.taps) c.loop-s.s _ _ (omega arith) c.loop-s.invariant.1 (omega arith) (omega arith) (c.from-in-loop-s.ensures ∙ ap (λ (w : ℕ). w / 256) c.byte_word-word.ensures),
)
