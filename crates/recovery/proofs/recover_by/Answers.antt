-- `recovery::recover_by` meets its contract. Assumes nothing.
use mathlib.Core.Path.{◌≡◌, sym, ap, ◌∙◌}
use mathlib.Core.List.{List, ◌++◌}
use Prim.Native.Nat.{ℕ, ◌/◌}
use native.Mathlib.Omega.{arith}
use borrow.Author.Rules.{rules}
use lib.ListN.{drop, length-replicate}
use Rattle.bits.proofs.ListLaws.{put-whole}
use Rattle.refusal.specs.Report.{Report, done, refused}
use Rattle.refusal.specs.Outcome.{Outcome}
use Rattle.card.specs.Modes.{block_bytes}
use Rattle.turbo.specs.Puncture.{kept_count}
use Rattle.fec.proofs.CodingLaws.{few_bytes, kept-most}
use Rattle.recovery.specs.Recovery.{data_bit, parity_bit, disagreeing}
use Rattle.recovery.proofs.RecoveryLaws.{refused-parity, recovered-good}
use Rattle.recovery.proofs.PartLaws.{decided_at, none-undecided, decided-binary, Holds, holds, first-length, first_fits, errors-are, block-put}
use Rattle.recovery.proofs.recover_by.Given.{Over}
use Rattle.recovery.proofs.recover_by.Goals as goal
use Rattle.recovery.proofs.recover_by.Goals.{After-parity_errors-errors, After-take_apart}

-- the numbers of bytes
size_is : {g : Over} (c : After-take_apart g) → c.block_bytes-size.result ≡ block_bytes c.args.coding.kind
size_is c = c.block_bytes-size.ensures

kept-is : {g : Over} (c : After-take_apart g) → c.kept_count-kept.result / 8 ≡ kept_count c.args.coding.kind c.args.coding.rate / 8
kept-is c = let (k, r, t) = c.from.ensures in ap (λ (n : ℕ). n / 8) (rw (k, r) at c.kept_count-kept.ensures)

-- what the buffers hold
block_held : {g : Over} (c : After-take_apart g)
    → Holds (block_bytes c.args.coding.kind) (data_bit c.args.coding.kind c.args.coding.rate (decided_at c.args.decided.now)) c.take_apart.new.block
block_held c = holds _ _ _ _ c.take_apart.ensures.block

parity-held : {g : Over} (c : After-take_apart g)
    → Holds (kept_count c.args.coding.kind c.args.coding.rate / 8) (parity_bit c.args.coding.kind c.args.coding.rate (decided_at c.args.decided.now)) c.take_apart.new.parity
parity-held c = holds _ _ _ _ c.take_apart.ensures.parity

-- the count that the code compares with 0 is the one of the definition
errors : {g : Over} (c : After-parity_errors-errors g)
    → c.parity_errors-errors.result ≡ disagreeing c.args.coding.kind c.args.coding.rate c.args.coding.taps (decided_at c.args.decided.now)
errors c =
    c.parity_errors-errors.ensures
    ∙ errors-are c.args.coding.kind c.args.coding.rate c.args.coding.defined _ (decided-binary _ _ _ c.requires.decided.0 c.requires.decided.1) c.block_bytes-size.ensures
    (let (k, r, t) = c.from.ensures in ap (λ (n : ℕ). n / 8) (rw (k, r) at c.kept_count-kept.ensures))
    (holds _ _ _ _ c.take_apart.ensures.block) (holds _ _ _ _ c.take_apart.ensures.parity) c.args.coding.taps

pub take_apart-requires : goal.take_apart-requires
take_apart-requires g c =
    record {
      decided = c.requires.decided;
      rate_in_bounds = (
        rw length-replicate c.requires.rate_in_bounds.0,
        omega (arith, few_bytes c.args.coding.kind c.args.coding.defined.kind-lt),
        omega (arith, kept-most c.args.coding.kind c.args.coding.rate c.args.coding.defined),
      );
    }

pub slice_bounds-block-end : goal.slice_bounds-block-end
slice_bounds-block-end g c = first_fits (size_is (goal.at.slice_bounds-block-end g c).After-take_apart) (block_held (goal.at.slice_bounds-block-end g c).After-take_apart)

pub slice_bounds-parity-end : goal.slice_bounds-parity-end
slice_bounds-parity-end g c = first_fits (kept-is (goal.at.slice_bounds-parity-end g c).After-take_apart) (parity-held (goal.at.slice_bounds-parity-end g c).After-take_apart)

pub slice_bounds-parity_errors-end : goal.slice_bounds-parity_errors-end
slice_bounds-parity_errors-end g c =
    let at = (goal.at.slice_bounds-parity_errors-end g c).After-take_apart in
    size_is at ∙ sym (first-length (size_is at) (block_held at))

pub slice_bounds-parity_errors-end-2 : goal.slice_bounds-parity_errors-end-2
slice_bounds-parity_errors-end-2 g c =
    let at = (goal.at.slice_bounds-parity_errors-end-2 g c).After-take_apart in
    kept-is at ∙ sym (first-length (kept-is at) (parity-held at))

pub parity_errors-errors-requires : goal.parity_errors-errors-requires
parity_errors-errors-requires g c =
    let at = (goal.at.parity_errors-errors-requires g c).After-take_apart in (
      first-length (size_is at) (block_held at),
      first-length (kept-is at) (parity-held at),
      omega (arith, kept-most c.args.coding.kind c.args.coding.rate c.args.coding.defined),
    )

pub returns-then-errors-gt0 : goal.returns-then-errors-gt0
returns-then-errors-gt0 g c =
    let e = errors (goal.at.returns-then-errors-gt0 g c).After-parity_errors-errors in
    let law =
    refused-parity c.args.coding.kind c.args.coding.rate c.args.coding.taps (decided_at c.args.decided.now) c.args.out.now
    (none-undecided _ _ _ c.requires.decided.0 c.requires.decided.1) (omega (arith, e, c.if-errors-gt0.true)) in
    record {
      answer = ap (λ (n : ℕ). refused 8 n 0) e ∙ ap (λ (q : Outcome ℕ (List ℕ)). q.report) (sym law);
      bytes = ap (λ (q : Outcome ℕ (List ℕ)). q.out) (sym law);
    }

pub returns : goal.returns
returns g c =
    let at = (goal.at.returns g c).After-take_apart in
    let law =
    recovered-good c.args.coding.kind c.args.coding.rate c.args.coding.taps (decided_at c.args.decided.now) c.args.out.now
    (none-undecided _ _ _ c.requires.decided.0 c.requires.decided.1) (omega (arith, errors (goal.at.returns g c).After-parity_errors-errors, c.if-errors-gt0.false)) in
    record {
      answer = ap {B = Report ℕ} done (size_is at) ∙ ap (λ (q : Outcome ℕ (List ℕ)). q.report) (sym law);
      bytes = ap (λ (l : List ℕ). l ++ drop c.block_bytes-size.result c.args.out.now) (put-whole _ _ _ (search rules) c.put.ensures)
          ∙ block-put c.args.coding.kind c.args.coding.rate c.args.coding.defined _ (decided-binary _ _ _ c.requires.decided.0 c.requires.decided.1) (size_is at) (kept-is at) (block_held at) (parity-held at) c.args.out.now
          ∙ ap (λ (q : Outcome ℕ (List ℕ)). q.out) (sym law);
    }
