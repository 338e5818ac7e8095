-- `text::Text::push_number` meets its contract. Assumes nothing.
use mathlib.Core.Path.{ap}
use Prim.Native.Nat.{ℕ}
use native.Mathlib.Omega.{arith}
use lib.ListN.{length, length-append}
use Rattle.text.proofs.TextLaws.{places-le, length-decimal}
use Rattle.text.proofs.Text.push_number.Goals as goal

pub push_decimal-requires : goal.push_decimal-requires
push_decimal-requires g c =
    let few = (places-le c.args.n).1 in
    (omega arith, omega (arith, length-append {A = ℕ}, ap length c.push.ensures, ap length c.push-2.ensures))

pub push-requires-3 : goal.push-requires-3
push-requires-3 g c =
    let few = (places-le c.args.n).1 in
    (omega arith, omega (arith, length-append {A = ℕ}, length-decimal c.args.n, ap length c.push.ensures, ap length c.push-2.ensures, ap length c.push_decimal.ensures))
