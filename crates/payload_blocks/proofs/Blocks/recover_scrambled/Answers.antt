-- `payload_blocks::Blocks::recover_scrambled` meets its contract: the lowest block that is refused decides, and the bytes of the others stand
-- one after the other. Assumes nothing.
use mathlib.Core.Path.{◌≡◌, refl, sym, ap, subst, ◌∙◌}
use mathlib.Core.List.{List}
use Prim.Native.Nat.{ℕ, ◌+◌, ◌*◌}
use native.Mathlib.Omega.{arith}
use native.Mathlib.Nat.{zero-mul}
use Rattle.std.proofs.lemmas.Result.{err_from_is_err_and}
use Rattle.bits.proofs.NumberLaws.{row_next}
use Rattle.bits.proofs.ListLaws.{written_none, written-part, written_all}
use Rattle.refusal.specs.Report.{Report, done}
use Rattle.refusal.specs.Outcome.{Outcome}
use Rattle.refusal.proofs.OutcomeLaws.{NoneApplies}
use Rattle.card.specs.Modes.{block_bytes}
use Rattle.payload_blocks.specs.Blockwise.{blockwise}
use Rattle.payload_blocks.specs.Blocks.{bits_of_block, block_rows}
use Rattle.payload_blocks.specs.Loops.Parts.{scrambled_byte}
use Rattle.payload_blocks.proofs.BlockwiseLaws.{not-answered, none_next}
use Rattle.payload_blocks.proofs.BlockLaws.{lowest-block, all-good}
use Rattle.payload_blocks.proofs.BufferLaws.{decided_at, part-recovered, one-refused, one-done, part-scrambled}
use Rattle.payload_blocks.proofs.Blocks.recover_scrambled.Goals as goal

pub loop-b-init : goal.loop-b-init
loop-b-init c = (refl, rw zero-mul (written_none _ _), tt)

pub returns-in_err-recover : goal.returns-in_err-recover
returns-in_err-recover c =
    let a = c.args.self.coding in
    let b = c.loop-b.b in
    let bits = c.coded_bits-bits.ensures in
    let same = part-recovered a.kind a.rate a.defined c.args.decided.now b _ _ (ap (λ (n : ℕ). b * n) bits) (ap (λ (n : ℕ). b * c.coded_bits-bits.result + n) bits) a.taps _ in
    let is = one-refused a.kind a.rate a.taps _ _ c.in_err-recover.field-0.0 (ap (λ (o : Outcome ℕ (List ℕ)). o.report) (sym same) ∙ sym c.in_err-recover.ensures.answer) in
    let p = err_from_is_err_and c.from_residual.result c.from_residual.ensures.1 in
    record {
      answer = rw (p.1, p.2) (ap (λ (o : Outcome ℕ (List ℕ)). o.report)
          (sym (lowest-block a.kind a.rate a.taps (decided_at c.args.decided.now) (block_bytes a.kind) c.args.self.count b c.in_err-recover.field-0.0 c.loop-b-test.true c.loop-b.invariant.2 is c.args.bytes.now)));
      bytes = λ e. absurd (not-answered c.in_err-recover.field-0.0 (rw (p.1, p.2) at e));
    }

pub loop-b-preserved : goal.loop-b-preserved
loop-b-preserved c =
    let a = c.args.self.coding in
    let b = c.loop-b.b in
    let size = block_bytes a.kind in
    let bits = c.coded_bits-bits.ensures in
    let e = decided_at c.args.decided.now in
    let at : b * size ≡ b * c.block_bytes-size.result = ap (λ (n : ℕ). b * n) (sym c.block_bytes-size.ensures) in
    let same = part-recovered a.kind a.rate a.defined c.args.decided.now b _ _ (ap (λ (n : ℕ). b * n) bits) (ap (λ (n : ℕ). b * c.coded_bits-bits.result + n) bits) a.taps _ in
    let (none, is) = one-done a.kind a.rate a.taps (bits_of_block a.kind a.rate e b) _ c.in_ok-recover.field-0 (ap (λ (o : Outcome ℕ (List ℕ)). o.report) (sym same) ∙ sym c.in_ok-recover.ensures.answer) in (
      omega (arith, c.loop-b.invariant.0),
      written_all _ _ _ _ _
          (written-part (b * c.block_bytes-size.result) size (scrambled_byte a.kind a.rate e) _ _ _ _ (written_all _ _ _ _ _ c.loop-b.invariant.1 at)
          (λ j h. part-scrambled a.kind a.rate e b _ j (sym at) h)
          (c.in_ok-recover.ensures.bytes ∙ ap (λ (o : Outcome ℕ (List ℕ)). o.out) same ∙ is))
          (omega (arith, at, row_next b size)),
      none_next (block_rows a.kind a.rate a.taps e) b c.loop-b.invariant.2 none,
    )

pub returns : goal.returns
returns c =
    let a = c.args.self.coding in
    let e = decided_at c.args.decided.now in
    let last : c.loop-b.b ≡ c.args.self.count = omega arith in
    let none = subst (λ (n : ℕ). NoneApplies (blockwise n (block_rows a.kind a.rate a.taps e))) last c.loop-b.invariant.2 in
    record {
      answer =
          ap {B = Report ℕ} (λ (s : ℕ). done (c.args.self.count * s)) c.block_bytes-size.ensures
          ∙ ap (λ (o : Outcome ℕ (List ℕ)). o.report) (sym (all-good a.kind a.rate a.taps e c.args.self.count c.args.bytes.now none));
      bytes = λ q. written_all _ _ _ _ _ c.loop-b.invariant.1 (ap (λ (k : ℕ). k * block_bytes a.kind) last);
    }
