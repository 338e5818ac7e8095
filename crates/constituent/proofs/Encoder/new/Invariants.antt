-- `constituent::Encoder::new` meets its contract. The invariant: the numbers have the answers of the states from s on. Assumes nothing.
use Prim.Native.Nat.{ℕ, ◌/◌, ◌%◌}
use Rattle.constituent.specs.Loops.Bytes.{byte_word}
use Rattle.constituent.proofs.ByteLaws.{Stacked}
use Rattle.constituent.proofs.Encoder.new.Given as goal

abbrev pub gives : ℕ → ℕ → ℕ
gives taps k = byte_word taps k 0 / 256

abbrev pub after : ℕ → ℕ → ℕ
after taps k = byte_word taps k 0 % 256

abbrev pub invariant-loop-s : goal.invariant-loop-s
invariant-loop-s l = Stacked (after l.taps) l.s l.states × Stacked (gives l.taps) l.s l.parities
