-- `record::all_same` meets its contract: both parts, or the one there is, tell of all elements. Assumes nothing.
use Rattle.std.proofs.Common.{◌≡◌, ℕ, ◌≤◌, sym, ◌∙◌, length, arith}
use Rattle.record.proofs.ExpectedLaws.{fails, tested}
use Rattle.record.proofs.all_same.Goals as goal

pub returns-then-out-count : goal.returns-then-out-count
returns-then-out-count g c =
    tested (length c.args.out.now) 0 (g.T.Element.same c.args.out.now c.args.expected.now) _
    (λ i l. absurd (omega (arith, l))) c.same_between.ensures.alike c.same_between.ensures.other

pub returns-then-same_between : goal.returns-then-same_between
returns-then-same_between g c =
    tested (length c.args.out.now) c.count-count.result (g.T.Element.same c.args.out.now c.args.expected.now) _
    (λ i l. c.same_between-2.ensures.alike c.if-same_between.true i (omega arith) l)
    (λ is i from l. beyond i from ∙ c.same_from.ensures.alike is i from l)
    (λ is. let (i, from, l, e) = c.same_from.ensures.other is in (i, from, l, beyond i from ∙ e))
  where
    beyond : (i : ℕ) → c.count-count.result ≤ i → g.T.Element.same c.args.out.now c.args.expected.now i ≡ g.T.Element.same c.args.out.now c.beyond.result.now i
    beyond i from = c.beyond.ensures c.args.out.now i (omega (arith, from, c.count-count.ensures))

pub returns-else-same_between : goal.returns-else-same_between
returns-else-same_between g c =
    let (i, from, l, e) = c.same_between-2.ensures.other c.if-same_between.false in
    c.if-same_between.false
    ∙ sym (fails (length c.args.out.now) i (g.T.Element.same c.args.out.now c.args.expected.now) (omega (arith, l, c.if-out-count.false)) e)
