-- `payload_blocks::Blocks::recover_by` meets its contract: a refusal is the same whatever is lent, and the bytes of good blocks are
-- descrambled. Assumes nothing.
use mathlib.Core.Path.{◌≡◌, sym, ap, ◌∙◌}
use mathlib.Core.List.{List}
use Prim.Native.Nat.{ℕ, ◌*◌, ◌≤◌}
use native.Mathlib.Omega.{arith}
use lib.ListN.{length, take, length-replicate}
use lib.Seq.{length-take-le}
use Rattle.std.proofs.lemmas.Result.{err_from_is_err_and}
use Rattle.bits.specs.Lists.{written}
use Rattle.refusal.specs.Report.{Report, done}
use Rattle.refusal.specs.Outcome.{Outcome}
use Rattle.refusal.proofs.OutcomeLaws.{NoneApplies}
use Rattle.card.specs.Modes.{block_bytes}
use Rattle.payload_blocks.specs.Blockwise.{blockwise}
use Rattle.payload_blocks.specs.Blocks.{block_rows}
use Rattle.payload_blocks.specs.Loops.Parts.{descrambled_byte}
use Rattle.payload_blocks.proofs.BlockLaws.{all-refused, all-done, all-good}
use Rattle.payload_blocks.proofs.BufferLaws.{decided_at, all-descrambled}
use Rattle.payload_blocks.proofs.Blocks.recover_by.Given.{Over}
use Rattle.payload_blocks.proofs.Blocks.recover_by.Goals as goal
use Rattle.payload_blocks.proofs.Blocks.recover_by.Goals.{In_ok-n}

-- where the blocks' bytes are given, no row applies, and there are as many as the blocks have
good : {g : Over} (c : In_ok-n g)
    → NoneApplies (blockwise c.args.self.count (block_rows c.args.self.coding.kind c.args.self.coding.rate c.args.self.coding.taps (decided_at c.args.decided.now)))
    × (c.args.self.count * block_bytes c.args.self.coding.kind ≡ c.in_ok-n.n)
good c = all-done c.args.self.coding.kind c.args.self.coding.rate c.args.self.coding.taps (decided_at c.args.decided.now) c.args.self.count _ c.in_ok-n.n (sym c.in_ok-n.ensures.answer)

pub shared_whole_as_front-descramble : goal.shared_whole_as_front-descramble
shared_whole_as_front-descramble g c =
    (omega (arith, (good (goal.at.shared_whole_as_front-descramble g c).In_ok-n).1, c.requires.room.0), omega (arith, c.requires.room.1))

pub descramble-requires : goal.descramble-requires
descramble-requires g c =
    let count = (good (goal.at.descramble-requires g c).In_ok-n).1 in
    (length-take-le _ _ (omega (arith, count, c.requires.room.0, c.recover_scrambled.auto.bytes, length-replicate {A = ℕ} g.row.N 0)) ∙ sym count, c.requires.decided.1)

pub returns-in_err-n : goal.returns-in_err-n
returns-in_err-n g c =
    let a = c.args.self.coding in
    let law = sym (all-refused a.kind a.rate a.taps (decided_at c.args.decided.now) c.args.self.count _ c.args.out.now c.in_err-n.field-0.0 (sym c.in_err-n.ensures.answer)) in
    let p = err_from_is_err_and c.from_residual.result c.from_residual.ensures.1 in
    record {
      answer = rw (p.1, p.2) (ap (λ (o : Outcome ℕ (List ℕ)). o.report) law);
      payload = ap (λ (o : Outcome ℕ (List ℕ)). o.out) law;
    }

pub returns : goal.returns
returns g c =
    let a = c.args.self.coding in
    let e = decided_at c.args.decided.now in
    let bytes = c.recover_scrambled.new.bytes in
    let (none, count) = good (goal.at.returns g c).In_ok-n in
    let law = sym (all-good a.kind a.rate a.taps e c.args.self.count c.args.out.now none) in
    let room : c.args.self.count * block_bytes a.kind ≤ length bytes =
    omega (arith, c.requires.room.0, c.recover_scrambled.auto.bytes, length-replicate {A = ℕ} g.row.N 0) in
    record {
      answer = ap {B = Report ℕ} done (sym count) ∙ ap (λ (o : Outcome ℕ (List ℕ)). o.report) law;
      payload =
          c.descramble.ensures
          ∙ ap (λ (n : ℕ). written (c.args.self.count * block_bytes a.kind) (descrambled_byte (block_bytes a.kind) (take n bytes)) c.args.out.now) (sym count)
          ∙ all-descrambled a.kind a.rate a.taps a.defined e c.args.self.count none _ bytes room (c.in_ok-n.ensures.bytes (ap {B = Report ℕ} done (sym count))) c.args.out.now
          ∙ ap (λ (o : Outcome ℕ (List ℕ)). o.out) law;
    }
