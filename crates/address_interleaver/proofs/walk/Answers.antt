-- `address_interleaver::walk` meets its contract: what comes next in the columns stands at the next place. Assumes nothing.
use Rattle.std.proofs.Common.{◌≡◌, ℕ, ◌+◌, ◌%◌, ◌<◌, ◌≤◌, length, sym, ap, ap₂, ◌∙◌, rules, arith}
use native.Mathlib.Nat.{zero-add, zero-mod, mod-eq_of_lt, div-add-mod'}
use Rattle.address_interleaver.specs.Addresses.{columns}
use Rattle.address_interleaver.specs.Loops.Table.{next_in_column, next_column}
use Rattle.address_interleaver.proofs.RoundLaws.{round-next}
use Rattle.address_interleaver.proofs.WalkLaws.{column-first, column-in, column-next, walk-next, walk-all}
use Rattle.address_interleaver.proofs.walk.Goals as goal
use Rattle.address_interleaver.proofs.walk.Goals.{In-loop}

-- the number is one of n, and at least its column
number_in : (c : In-loop) → (c.loop.x < length c.args.out.now) × (c.loop.column ≤ c.loop.x)
number_in c =
    let n = length c.args.out.now in
    let m = c.args.m in
    let at = c.loop.invariant.number c.loop-test.true in (
      omega (arith, at.0, column-in n m c.requires.1 c.loop.counter c.loop-test.true),
      omega (arith, at.0, at.1, div-add-mod' (columns n m c.loop.counter) m),
    )

pub loop-init : goal.loop-init
loop-init c =
    let n = length c.args.out.now in
    let m = c.args.m in
    let first = column-first n m c.requires.1 (omega arith) in
    record {
      place = sym (ap (λ (k : ℕ). k % n) (zero-add c.args.start) ∙ mod-eq_of_lt c.requires.0);
      walked = λ i l. omega arith;
      number = λ l. (first, sym (zero-mod m) ∙ ap (λ (k : ℕ). k % m) first);
    }

pub overflow_add-out : goal.overflow_add-out
overflow_add-out c = omega (arith, number_in c)

pub overflow_cast-out : goal.overflow_cast-out
overflow_cast-out c = omega (arith, number_in c)

pub next-requires : goal.next-requires
next-requires c =
    let inside = number_in (goal.at.next-requires c).In-loop in
    (omega arith, omega arith, inside.0, inside.1)

pub loop-preserved : goal.loop-preserved
loop-preserved c =
    let n = length c.args.out.now in
    let m = c.args.m in
    let q = c.loop.counter in
    let now = c.loop.invariant.number c.loop-test.true in
    let shift : q + c.args.start + 1 ≡ q + 1 + c.args.start = omega arith in
    record {
      place = c.next_place-p.ensures.0 ∙ ap (λ (k : ℕ). (k + 1) % n) c.loop.invariant.place ∙ round-next n (q + c.args.start) ∙ ap (λ (k : ℕ). k % n) shift;
      walked = rw c.loop.invariant.place
          (walk-next n m c.args.start c.args.base q _ c.loop.out c.loop-test.true (search rules)
          (ap (λ (x : ℕ). c.args.base + x) now.0) c.loop.invariant.walked);
      number = λ h.
          let after = column-next n m c.requires.1 q h in (
            c.next.ensures.0 ∙ ap₂ (next_in_column n m) now.0 now.1 ∙ after.0,
            c.next.ensures.1 ∙ ap₂ (next_column n m) now.0 now.1 ∙ after.1,
          );
    }

pub returns : goal.returns
returns c =
    let n = length c.args.out.now in
    let e : c.loop.counter ≡ n = omega arith in
    λ p h. walk-all n c.args.m c.args.start c.args.base c.loop.out (rw e at c.loop.invariant.walked) p (search rules)
