-- `payload::send_by` meets its contract: each return is a case of `send_by`. Assumes nothing.
use mathlib.Core.Path.{◌≡◌, sym, ap, ap₂, ◌∙◌}
use mathlib.Core.List.{List}
use Prim.Native.Nat.{ℕ}
use native.Mathlib.Omega.{arith}
use lib.ListN.{length}
use Rattle.refusal.specs.Report.{done}
use Rattle.refusal.specs.Outcome.{Outcome}
use Rattle.card.specs.Modes.{block_bytes}
use Rattle.interleaver_shape.specs.Shapes.{coded_bits}
use Rattle.payload_layout.specs.declared.Layout.{Layout}
use Rattle.payload_layout.specs.Layouts.{items}
use Rattle.payload.specs.Entries.{block_layout}
use Rattle.payload.proofs.ModeLaws.{layout-bits, layout-served}
use Rattle.payload.proofs.EntryLaws.{send-length, send-room, send-done}
use Rattle.payload.proofs.send_by.Goals as goal
use Rattle.payload.proofs.send_by.Goals.{After-item_count-needed, Else-block-size}

-- the numbers of bytes and of items are those of the card
size_is : (c : After-item_count-needed) → c.block_bytes-size.result ≡ block_bytes c.args.c.now.kind
size_is c = c.block_bytes-size.ensures ∙ ap block_bytes c.of-plan.ensures.coding.0

needed-is : (c : After-item_count-needed) → c.item_count-needed.result ≡ items (block_layout c.args.c.now)
needed-is c = c.item_count-needed.ensures ∙ ap items c.of-plan.ensures.layout

-- behind the check of the length the block has as many bytes as its kind
long : (c : Else-block-size) → length c.args.block.now ≡ block_bytes c.args.c.now.kind
long c = c.if-block-size.false ∙ c.block_bytes-size.ensures ∙ ap block_bytes c.of-plan.ensures.coding.0

pub item_count-needed-requires : goal.item_count-needed-requires
item_count-needed-requires c = rw c.of-plan.ensures.layout (layout-served c.args.c.now c.requires)

pub send_items-requires : goal.send_items-requires
send_items-requires c = (
  record {
    defined = c.of-plan.result.coding.defined;
    laid = rw c.of-plan.ensures.layout (layout-served c.args.c.now c.requires);
    count = ap (λ (L : Layout). L.coded) c.of-plan.ensures.layout ∙ layout-bits c.args.c.now ∙ sym (ap₂ coded_bits c.of-plan.ensures.coding.0 c.of-plan.ensures.coding.1);
  },
  c.if-block-size.false ∙ c.block_bytes-size.ensures,
  omega (arith, c.item_count-needed.ensures, c.if-out-needed.false),
)

pub returns-then-block-size : goal.returns-then-block-size
returns-then-block-size c =
    let size = size_is (goal.at.returns-then-block-size c).After-item_count-needed in
    let law = sym (send-length c.args.c.now c.args.block.now c.args.out.now (λ e. c.if-block-size.true (e ∙ sym size))) in
    record {
      answer = ap (λ (o : Outcome ℕ (List ℕ)). o.report) law;
      items = ap (λ (o : Outcome ℕ (List ℕ)). o.out) law;
    }

pub returns-then-out-needed : goal.returns-then-out-needed
returns-then-out-needed c =
    let needed = needed-is (goal.at.returns-then-out-needed c).After-item_count-needed in
    let law = sym (send-room c.args.c.now c.args.block.now c.args.out.now (long (goal.at.returns-then-out-needed c).Else-block-size) (rw needed at c.if-out-needed.true)) in
    record {
      answer = rw needed (ap (λ (o : Outcome ℕ (List ℕ)). o.report) law);
      items = ap (λ (o : Outcome ℕ (List ℕ)). o.out) law;
    }

pub returns : goal.returns
returns c =
    let needed = needed-is (goal.at.returns c).After-item_count-needed in
    let (k, r, t) = c.of-plan.ensures.coding in
    let law = sym (send-done c.args.c.now c.args.block.now c.args.out.now (long (goal.at.returns c).Else-block-size) (rw needed at c.if-out-needed.false)) in
    record {
      answer = ap (λ (n : ℕ). done n) needed ∙ ap (λ (o : Outcome ℕ (List ℕ)). o.report) law;
      items = (rw (c.of-plan.ensures.layout, k, r, t) at c.send_items.ensures) ∙ ap (λ (o : Outcome ℕ (List ℕ)). o.out) law;
    }
