-- `pair_interleaver::second_bytes` meets its contract. Assumes nothing.
use Rattle.std.proofs.Common.{◌≡◌, ℕ, ◌*◌, ◌++◌, List, length, drop, take, sym, ap, ◌∙◌, rules, arith}
use Rattle.bits.specs.Lists.{written}
use Rattle.bits.proofs.ListLaws.{tabulate-of}
use Rattle.pair_interleaver.specs.Loops.Gather.{place_in, exchanged_byte}
use Rattle.pair_interleaver.proofs.InterleaveLaws.{few-columns, starts-below}
use Rattle.pair_interleaver.proofs.GatherLaws.{second-asked, second-done}
use Rattle.pair_interleaver.proofs.second_bytes.Goals as goal

pub places-requires : goal.places-requires
places-requires c =
    let e = c.table-starts.ensures in
    let few = few-columns c.args.kind c.requires.0 in (
      rw e few,
      search rules,
      rw e (starts-below c.args.kind c.requires.0),
    )

pub interleave-requires : goal.interleave-requires
interleave-requires c =
    let e = c.table-starts.ensures in
    let many : length c.places.new.out ≡ 4 * length c.table-starts.result.now = search rules in
    let long : length c.list_twice.new.out ≡ 8 * length c.args.bytes.now = search rules in
    second-asked c.args.kind c.requires.0 c.args.bytes.now c.requires.1 c.places.new.out c.list_twice.new.out (many ∙ ap (λ (s : List ℕ). 4 * length s) e) long
    (λ t h. c.places.ensures t (omega (arith, ap length e)) ∙ ap (λ (s : List ℕ). place_in s t) e)
    (λ t h. c.list_twice.ensures t (omega arith))
    _ (search rules)

pub returns-clause-list_after : goal.returns-clause-list_after
unfolding written
returns-clause-list_after c =
    let n = 8 * length c.args.bytes.now in
    let long : length c.list_twice.new.out ≡ n = search rules in
    ap (λ (l : List ℕ). l ++ drop n c.args.list.now) (tabulate-of n _ 0 c.list_twice.new.out long (λ t h. c.list_twice.ensures t (omega arith)))

pub returns-clause-out_after : goal.returns-clause-out_after
unfolding written
returns-clause-out_after c =
    let n = length c.args.bytes.now in
    let e = c.table-starts.ensures in
    let many : length c.places.new.out ≡ 4 * length c.table-starts.result.now = search rules in
    let long : length c.list_twice.new.out ≡ 8 * n = search rules in
    let room : length (take n c.args.out.now) ≡ n = search rules in
    let made : length c.interleave.new.out ≡ n = search rules in
    let done : length c.exchange_all.new.out ≡ n = search rules in
    rw (sym c.requires.1)
    (ap (λ (l : List ℕ). l ++ drop n c.args.out.now)
    (tabulate-of n _ 0 c.exchange_all.new.out done
    (λ i h.
    c.exchange_all.ensures i (omega arith)
    ∙ ap exchanged_byte (rw room at (c.interleave.ensures i (omega arith)))
    ∙ second-done c.args.kind c.requires.0 c.args.bytes.now c.requires.1 c.places.new.out c.list_twice.new.out (many ∙ ap (λ (s : List ℕ). 4 * length s) e) long
    (λ t h. c.places.ensures t (omega (arith, ap length e)) ∙ ap (λ (s : List ℕ). place_in s t) e)
    (λ t h. c.list_twice.ensures t (omega arith)) i h)))
