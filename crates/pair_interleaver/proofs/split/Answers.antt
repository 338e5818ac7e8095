-- `pair_interleaver::split` meets its contract: a turn stores the two digits of an element. Assumes nothing.
use Rattle.std.proofs.Common.{◌≡◌, ℕ, ◌+◌, ◌*◌, ◌<◌, List, length, get_or, set, arith}
use Rattle.std.proofs.lemmas.Grind.{common_steps}
use Rattle.pair_interleaver.specs.Loops.Gather.{digit_of}
use Rattle.pair_interleaver.proofs.GatherLaws.{digit-even, digit-odd}
use Rattle.pair_interleaver.proofs.split.Goals as goal

-- two elements more
two_more : (n a b : ℕ) (f : ℕ → ℕ) (xs : List ℕ) → n + 1 < length xs → a ≡ f n → b ≡ f (n + 1) → ((t : ℕ) → t < n → get_or xs t 0 ≡ f t)
    → (t : ℕ) → t < n + 2 → get_or (set (set xs n a) (n + 1) b) t 0 ≡ f t
two_more n a b f xs h p q below t l = grind (arith, common_steps)

pub loop-i-preserved : goal.loop-i-preserved
loop-i-preserved c =
    let i = c.loop-i.i in
    let two : 2 * (i + 1) ≡ 2 * i + 2 = omega arith in
    rw two (two_more (2 * i) _ _ (digit_of c.args.base c.args.src.now) c.loop-i.out (omega arith) (digit-even c.args.base c.args.src.now i) (digit-odd c.args.base c.args.src.now i)
    c.loop-i.invariant)
