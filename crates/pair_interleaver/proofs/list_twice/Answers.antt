-- `pair_interleaver::list_twice` meets its contract: the digits of digits are the pairs, and their copy stands after them. Assumes nothing.
use Rattle.std.proofs.Common.{◌≡◌, ℕ, ◌-◌, ◌*◌, ◌<◌, ◌++◌, List, length, get_or, ap, ◌∙◌, rules, arith, get_or-take}
use lib.ListN.{get_or-append}
use Rattle.std.proofs.lemmas.List.{places}
use Rattle.bits.specs.Bits.{bit_of}
use Rattle.bits.proofs.NumberLaws.{lt-cases}
use Rattle.bits.proofs.ListLaws.{put-whole}
use Rattle.constituent.specs.Pairs.{pair_at}
use Rattle.pair_interleaver.proofs.GatherLaws.{digits-pairs, twice-first, twice-again}
use Rattle.pair_interleaver.proofs.list_twice.Goals as goal

pub returns : goal.returns
returns c =
    let bytes = c.args.bytes.now in
    let l = 4 * length bytes in
    let p = pair_at (bit_of bytes) in
    let first = c.split-2.new.out in
    let again = c.put.new.out in
    let long : length first ≡ l = search rules in
    let same : again ≡ first = put-whole _ _ _ (search rules) c.put.ensures in
    let pairs = λ (t : ℕ) (b : t < l).
    c.split-2.ensures t (omega arith)
    ∙ digits-pairs bytes _ (λ k h. get_or-take (2 * length bytes) _ k 0 h ∙ get_or-append c.split.new.out _ 0 k (search rules) ∙ c.split.ensures k (search rules)) t b in
    λ t h.
    lt-cases t l
    (λ b. get_or-append first again 0 t (omega arith) ∙ pairs t b ∙ twice-first l p t b)
    (λ b.
    let after : get_or (first ++ again) t 0 ≡ get_or again (t - l) 0 = grind (arith, places) in
    after ∙ ap (λ (s : List ℕ). get_or s (t - l) 0) same ∙ pairs (t - l) (omega arith) ∙ twice-again l p t b (omega arith))
