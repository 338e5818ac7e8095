-- Laws of the lines of a refusal. Assumes nothing.
use mathlib.Core.List.{List}
use Prim.Native.Nat.{ℕ, ◌+◌, ◌≤◌}
use native.Mathlib.Omega.{arith}
use lib.ListN.{length}
use Rattle.text.specs.Text.{decimal, line}
use Rattle.text.proofs.TextLaws.{length-line, length-decimal, places-le}

-- a line of a name and a number has at most 22 characters more than the name
pub number_short : (name : List ℕ) (n : ℕ) → length (line name (decimal n)) ≤ length name + 22
number_short name n = omega (arith, length-line name (decimal n), length-decimal n, (places-le n).1)
