-- `constituent::Encoder::walk` meets its contract. The invariant: a and b are eight times the states after the pairs so far. Assumes nothing.
use mathlib.Core.Path.{refl}
use lib.Dec.{lit<}
use Rattle.std.proofs.lemmas.List.{length_push}
use Rattle.std.proofs.lemmas.Slice.Zip.{zip_turn}
use Rattle.constituent.specs.Encoder.{state_at}
use Rattle.constituent.proofs.ByteLaws.{state-turn}
use Rattle.constituent.proofs.Encoder.walk.Goals as goal

pub loop-x-init : goal.loop-x-init
unfolding state_at
loop-x-init c = (lit< tt, lit< tt, refl, refl)

pub loop-x-preserved : goal.loop-x-preserved
loop-x-preserved c =
    let l = c.loop-x in
    let taps = c.args.self.now.taps in
    let t = zip_turn c.args.bytes.now c.args.second.now l.yielded c.into_iter-x-iterator.result _ c.next.new.self _ (cc) (cc) l.yielded_by (c.in-Some.x, c.in-Some.y) c.in-Some.is c.next.ensures.steps in
    rw length_push (
      c.moved-a.ensures.small,
      c.moved-b.ensures.small,
      state-turn taps c.args.bytes.now 0 (lit< tt) _ _ _ _ l.invariant.2 (t.2 0) c.moved-a.ensures.after,
      state-turn taps c.args.second.now 0 (lit< tt) _ _ _ _ l.invariant.3 (t.3 0) c.moved-b.ensures.after,
    )
