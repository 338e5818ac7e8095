-- `votes::count_run` meets its contract: a turn stores one counter of the run, which stands in its place among all counters.
-- Assumes nothing.
use Rattle.std.proofs.Common.{◌≡◌, ℕ, ◌+◌, ◌-◌, ◌++◌, ◌<◌, ◌≤◌, List, length, take, set, get_or, arith, rules, length-take}
use Rattle.std.proofs.lemmas.List.{places, set-append_left, set-append_right}
use borrow.Rule.Slice.PartMut.{put_mid, post_of, put_same}
use Rattle.votes.specs.Votes.{carries}
use Rattle.votes.proofs.CounterLaws.{adds_none, adds-more, adds-item, carries_same}
use Rattle.votes.proofs.count_run.Goals as goal

-- an element of a part, read and stored in the whole
read-part : (at n i : ℕ) (was part : List ℕ) → at ≤ length was → i < length part → get_or (put_mid at n was part) (at + i) 0 ≡ get_or part i 0
read-part at n i was part h l = grind (arith, places)

set-part : (at n i v : ℕ) (was part : List ℕ) → at ≤ length was → i < length part
    → set (put_mid at n was part) (at + i) v ≡ put_mid at n was (set part i v)
set-part at n i v was part h l =
    let long : length (take at was) ≡ at = simp length-take (omega arith) in
    let here : at + i - at ≡ i = omega arith in
    let le : at ≤ at + i = omega arith in
    rw (set-append_right (take at was) (part ++ post_of at n was) at (at + i) v long le, here, set-append_left part (post_of at n was) i v l)

pub loop-i-init : goal.loop-i-init
loop-i-init c =
    let count : c.args.at + c.args.count - c.args.at ≡ c.args.count = omega arith in
    rw (count, put_same c.args.at c.args.count c.args.counters.now) (adds_none _ _ _ _ _)

pub loop-i-preserved : goal.loop-i-preserved
loop-i-preserved c =
    let args = c.args in
    let i = c.loop-i.i in
    let counters = args.counters.now in
    let within : args.at ≤ length counters = omega arith in
    let in_run : i < length c.loop-i.run = search rules in
    adds-more _ _ _ _ _ i 1 (carries (λ j. args.at + i)) _ _ c.loop-i.invariant
    (rw (← set-part args.at args.count i c.voted.result counters c.loop-i.run within in_run)
    (adds-item _ (args.n + i) (args.at + i) _ args.items.now _ (rw (read-part args.at args.count i counters c.loop-i.run within in_run) c.voted.ensures)))
    (λ j q l. carries_same _ _ j (i + j) (omega arith) q)
