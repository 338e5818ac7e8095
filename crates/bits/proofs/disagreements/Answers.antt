-- `bits::disagreements` meets its contract. The invariant: n is the count among the bits of the bytes so far. Assumes nothing.
use mathlib.Core.Path.{◌≡◌, refl, ◌∙◌}
use Prim.Native.Nat.{◌+◌, ◌*◌, ◌<◌}
use native.Mathlib.Omega.{arith}
use lib.ListN.{length, length-append}
use borrow.Author.Rules.{rules}
use Rattle.std.proofs.lemmas.Slice.Zip.{zip_turn}
use Rattle.bits.specs.Sums.{sum, count}
use Rattle.bits.proofs.SumLaws.{count-le}
use Rattle.bits.proofs.DifferLaws.{unlike, unlike-next, unlike-bytes}
use Rattle.bits.proofs.disagreements.Goals as goal
use Rattle.bits.proofs.disagreements.Goals.{After-differing-n}

-- the place of the pair, and the count after the turn
turn : (c : After-differing-n)
    → let i = length c.loop-x.yielded in
    (i < length c.args.a.now) × (c.loop-x.n + c.differing-n.result ≡ count (8 * (i + 1)) (unlike c.args.a.now c.args.b.now))
turn c =
    let a = c.args.a.now in
    let b = c.args.b.now in
    let l = c.loop-x in
    let (within, _, x, y) = zip_turn a b l.yielded _ l.x-iterator c.next.new.self c.next.result (search rules) (search rules) l.yielded_by (c.in-Some.x, c.in-Some.y) c.in-Some.is c.next.ensures.steps in
    (within, unlike-next a b (length l.yielded) l.n c.differing-n.result l.invariant (c.differing-n.ensures ∙ unlike-bytes (x 0) (y 0)))

pub loop-x-init : goal.loop-x-init
unfolding count sum
loop-x-init c = refl

pub overflow_add-n : goal.overflow_add-n
overflow_add-n c =
    let (within, n) = turn c in
    omega (arith, n, count-le (8 * (length c.loop-x.yielded + 1)) (unlike c.args.a.now c.args.b.now))

pub loop-x-preserved : goal.loop-x-preserved
loop-x-preserved c = simp length-append (turn c).1
