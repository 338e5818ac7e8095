-- `payload::Plan::read_items` meets its contract: the bits are decided, recovered and descrambled, or refused. Assumes nothing.
use mathlib.Core.Path.{sym, ap, ◌∙◌}
use mathlib.Core.List.{List}
use Prim.Native.Nat.{ℕ}
use native.Mathlib.Omega.{arith}
use lib.ListN.{replicate}
use Rattle.refusal.specs.Report.{answer}
use Rattle.refusal.specs.Outcome.{Outcome}
use Rattle.fec.proofs.CodingLaws.{few_bytes}
use Rattle.payload.specs.Entries.{decided_bit}
use Rattle.payload.proofs.EntryLaws.{block_refused}
use Rattle.payload.proofs.BufferLaws.{part_room, part_length, coded-fits, decided-recovered, Recovered, block_size, block-length, block_room, block-report, block_out}
use Rattle.payload.proofs.Plan.read_items.Goals as goal
use Rattle.payload.proofs.Plan.read_items.Goals.{In-Ok}

-- what is recovered from the array is what is recovered from the decided bits
given : (c : In-Ok)
    → Recovered c.args.self.now.coding.kind c.args.self.now.coding.rate c.args.self.now.coding.taps (decided_bit c.args.self.now.layout c.args.items.now) (replicate 520 0) c.recover.new.out c.in-Ok.size
given c =
    let coding = c.args.self.now.coding in
    let law = decided-recovered c.args.self.now.layout coding.kind coding.rate coding.taps c.requires.0 c.args.items.now _ _ (replicate 520 0) c.decide.ensures in
    record {
      defined = coding.defined;
      good = sym (c.recover.ensures.answer ∙ ap (λ (q : Outcome ℕ (List ℕ)). q.report) law) ∙ ap answer c.in-Ok.is;
      held = c.recover.ensures.bytes ∙ ap (λ (q : Outcome ℕ (List ℕ)). q.out) law;
    }

pub decide-requires : goal.decide-requires
decide-requires c =
    (c.requires.0.laid, c.requires.1, coded-fits c.args.self.now.layout c.args.self.now.coding.kind c.args.self.now.coding.rate c.args.self.now.coding.taps c.requires.0)

pub slice_bounds-decided-end : goal.slice_bounds-decided-end
slice_bounds-decided-end c =
    part_room _ _ _ _ c.decide.ensures

pub slice_bounds-recover-end : goal.slice_bounds-recover-end
slice_bounds-recover-end c =
    sym (part_length _ _ _ _ c.decide.ensures)

pub recover-requires : goal.recover-requires
recover-requires c =
    (part_length _ _ _ _ c.decide.ensures ∙ c.requires.0.count, omega (arith, few_bytes c.args.self.now.coding.kind c.args.self.now.coding.defined.kind-lt))

pub slice_bounds-block-end : goal.slice_bounds-block-end
slice_bounds-block-end c = block_room (given (goal.at.slice_bounds-block-end c).In-Ok)

pub slice_bounds-scramble-end : goal.slice_bounds-scramble-end
slice_bounds-scramble-end c = sym (block-length (given (goal.at.slice_bounds-scramble-end c).In-Ok))

pub scramble-requires : goal.scramble-requires
scramble-requires c =
    let block = given (goal.at.scramble-requires c).In-Ok in
    omega (arith, block-length block, block_size block, c.requires.2)

pub returns-in-Err : goal.returns-in-Err
returns-in-Err c =
    let coding = c.args.self.now.coding in
    let same = decided-recovered c.args.self.now.layout coding.kind coding.rate coding.taps c.requires.0 c.args.items.now _ _ (replicate 520 0) c.decide.ensures in
    let e = sym (c.recover.ensures.answer ∙ ap (λ (q : Outcome ℕ (List ℕ)). q.report) same) ∙ ap answer c.in-Err.is in
    let law = sym (block_refused coding.kind coding.rate coding.taps coding.defined (decided_bit c.args.self.now.layout c.args.items.now) (replicate 520 0) c.args.out.now c.in-Err.r e) in
    record {
      answer = ap (λ (q : Outcome ℕ (List ℕ)). q.report) law;
      bytes = ap (λ (q : Outcome ℕ (List ℕ)). q.out) law;
    }

pub returns-in-Ok : goal.returns-in-Ok
returns-in-Ok c =
    let block = given (goal.at.returns-in-Ok c).In-Ok in
    record {
      answer = block-report block c.args.out.now;
      bytes = c.scramble.ensures ∙ block_out block c.args.out.now;
    }
