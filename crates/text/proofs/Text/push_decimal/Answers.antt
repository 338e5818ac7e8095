-- `text::Text::push_decimal` meets its contract. The invariant: the first i digits are appended. Assumes nothing.
use mathlib.Core.Path.{◌≡◌, sym, ap, ◌∙◌}
use mathlib.Core.List.{◌++◌, append-nil}
use Prim.Native.Nat.{ℕ, ◌+◌, ◌-◌, ◌/◌, ◌%◌, ◌^◌, ◌<◌, ◌≤◌}
use native.Mathlib.Omega.{arith}
use lib.ListN.{length, length-append}
use borrow.Author.Rules.{rules}
use borrow.Author.Tests.{tests}
use Rattle.std.proofs.lemmas.Iterator.{first_from_Range}
use Rattle.bits.specs.Lists.{tabulate}
use Rattle.bits.proofs.ListLaws.{length-tabulate}
use Rattle.text.specs.Text.{places, decimal}
use Rattle.text.proofs.TextLaws.{digit_of, places-le, places-found, power-lt, power-pos, tabulated-next}
use Rattle.text.proofs.Text.push_decimal.Goals as goal
use Rattle.text.proofs.Text.push_decimal.Given.{Over}
use Rattle.text.proofs.Text.push_decimal.Goals.{After-unwrap_or-places}

-- as many digits are appended as the number has places
counted : (g : Over) (c : After-unwrap_or-places g) → c.unwrap_or-places.result ≡ places c.args.n
counted g c =
    c.unwrap_or-places.ensures
    ∙ places-found c.args.n c.find.result
    (first_from_Range _ _ _ _ (λ i. c.args.n < 10 ^ i) (λ i. 10 ^ i ≤ c.args.n) c.find.ensures.ran (λ x q k. search (rules, tests)) (λ x q k. search (rules, tests)))

pub loop-place-init : goal.loop-place-init
unfolding tabulate
loop-place-init g c =
    let none : 0 ≡ places c.args.n - c.unwrap_or-places.result = omega (arith, counted g c) in
    sym (append-nil _) ∙ ap (λ (m : ℕ). c.args.self.now ++ tabulate m (digit_of c.args.n)) none

pub pow-requires : goal.pow-requires
pow-requires g c =
    let few = (places-le c.args.n).1 in
    power-lt (c.loop-place.place - 1) (omega (arith, counted g (goal.at.pow-requires g c).After-unwrap_or-places))

pub nonzero_div-n : goal.nonzero_div-n
nonzero_div-n g c = omega (arith, c.pow.ensures, power-pos (c.loop-place.place - 1))

pub push-requires : goal.push-requires
push-requires g c =
    let so_far = ap length c.loop-place.invariant in
    let digits = length-tabulate (places c.args.n - c.loop-place.place) (digit_of c.args.n) in
    (omega arith, omega (arith, so_far, digits, length-append {A = ℕ}, counted g (goal.at.push-requires g c).After-unwrap_or-places))

pub loop-place-preserved : goal.loop-place-preserved
loop-place-preserved g c =
    let n = c.args.n in
    let place : ℕ = c.loop-place.place in
    let found = counted g (goal.at.loop-place-preserved g c).After-unwrap_or-places in
    let power : place - 1 ≡ places n - 1 - (places n - place) = omega (arith, found) in
    let more : places n - place + 1 ≡ places n - (place - 1) = omega (arith, found) in
    tabulated-next (digit_of n) (places n - place) _ _ _ _ c.loop-place.invariant c.push.ensures
    (ap (λ (p : ℕ). 48 + n / p % 10) (c.pow.ensures ∙ ap (λ (m : ℕ). 10 ^ m) power))
    ∙ ap (λ (m : ℕ). c.args.self.now ++ tabulate m (digit_of n)) more

pub returns : goal.returns
unfolding decimal
returns g c =
    let n = c.args.n in
    let all : places n - c.loop-place.place ≡ places n = omega arith in
    c.loop-place.invariant ∙ ap (λ (m : ℕ). c.args.self.now ++ tabulate m (digit_of n)) all
