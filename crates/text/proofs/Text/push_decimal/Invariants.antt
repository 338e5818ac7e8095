-- `text::Text::push_decimal` meets its contract. The invariant: the digits above the place are appended. Assumes nothing.
use mathlib.Core.Path.{◌≡◌}
use mathlib.Core.List.{◌++◌}
use Prim.Native.Nat.{◌-◌}
use Rattle.bits.specs.Lists.{tabulate}
use Rattle.text.specs.Text.{places}
use Rattle.text.proofs.TextLaws.{digit_of}
use Rattle.text.proofs.Text.push_decimal.Given as goal

abbrev pub invariant-loop-place : goal.invariant-loop-place
invariant-loop-place g l = l.self ≡ l.initial.self ++ tabulate (places l.n - l.place) (digit_of l.n)
