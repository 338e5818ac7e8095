-- `turbo::Encoder::keep` meets its contract. The invariant: the first i bytes are written. Assumes nothing.
use mathlib.Core.Path.{◌≡◌, ap, ap₂, ◌∙◌}
use mathlib.Core.List.{List, ◌++◌}
use Prim.Native.Nat.{ℕ, ◌+◌, ◌*◌, ◌/◌, ◌≤◌, ◌<◌}
use native.Mathlib.Omega.{arith}
use lib.ListN.{take, drop, length, length-take}
use Rattle.bits.specs.Lists.{written}
use Rattle.bits.proofs.ListLaws.{written_none, written_next, written-whole}
use Rattle.constituent.specs.Pairs.{pair_count}
use Rattle.constituent.proofs.PairLaws.{few-pairs}
use Rattle.turbo.specs.Puncture.{kept_count}
use Rattle.turbo.specs.Loops.Keeping.{kept_from}
use Rattle.turbo.proofs.PunctureLaws.{rows-in-block, places-lt}
use Rattle.turbo.proofs.ParityLaws.{rows-byte}
use Rattle.turbo.proofs.Encoder.keep.Goals as goal
use Rattle.turbo.proofs.Encoder.keep.Goals.{In-loop-i}

-- the rows of a turn are in the block, and their places in the rows
in_block : (c : In-loop-i) → 32 * c.loop-i.i + 32 ≤ pair_count c.args.self.kind
in_block c =
    rows-in-block c.args.self.kind c.args.self.rate c.loop-i.i c.args.self.kind_in_range c.requires.rate-is
    (omega (arith, c.kept_count-n.ensures, length-take {A = ℕ}))

places : (c : In-loop-i) → (c.next_kept-a.result < 16) × (c.next_kept-b.result < 16)
places c =
    let a = c.next_kept-a.ensures in
    let l = places-lt c.args.self.rate c.requires.rate-is in
    (omega (arith, a, l.0), omega (arith, c.next_kept-b.ensures ∙ ap (λ (n : ℕ). kept_from c.args.self.rate (n + 1)) a, l.1))

pub overflow_add-a : goal.overflow_add-a
overflow_add-a c = omega (arith, c.next_kept-a.ensures, (places-lt c.args.self.rate c.requires.rate-is).0)

pub next_kept-b-requires : goal.next_kept-b-requires
next_kept-b-requires c = omega (arith, c.next_kept-a.ensures, (places-lt c.args.self.rate c.requires.rate-is).0)

pub loop-i-init : goal.loop-i-init
loop-i-init c = written_none _ _

pub overflow_mul-i : goal.overflow_mul-i
overflow_mul-i c = omega (arith, in_block (goal.at.overflow_mul-i c).In-loop-i, few-pairs c.args.self.kind c.args.self.kind_in_range)

pub two_rows-requires : goal.two_rows-requires
two_rows-requires c =
    let (first, second) = places (goal.at.two_rows-requires c).In-loop-i in
    (omega (arith, in_block (goal.at.two_rows-requires c).In-loop-i, c.requires.whole), c.requires.short, first, second)

pub loop-i-preserved : goal.loop-i-preserved
loop-i-preserved c =
    written_next _ _ _ _ _ c.loop-i.invariant (omega arith)
    (c.two_rows.ensures
    ∙ rows-byte c.args.self.kind c.args.self.rate _ c.loop-i.i _ _ c.requires.rate-is c.next_kept-a.ensures c.next_kept-b.ensures
    (in_block (goal.at.loop-i-preserved c).In-loop-i))

pub returns : goal.returns
unfolding written
returns c =
    let kept = kept_count c.args.self.kind c.args.self.rate / 8 in
    let e : c.kept_count-n.result / 8 ≡ kept = ap (λ (n : ℕ). n / 8) c.kept_count-n.ensures in
    let h : length (take (c.kept_count-n.result / 8) c.args.out.now) ≡ kept = rw length-take (omega (arith, e, c.requires.room)) in
    ap₂ (λ (l : List ℕ) (n : ℕ). l ++ drop n c.args.out.now) (written-whole _ kept _ _ _ c.loop-i.invariant (omega (arith, h)) h) e
