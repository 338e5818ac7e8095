-- `payload::read_by` meets its contract: each return is a case of `read_by`. Assumes nothing.
use mathlib.Core.Path.{◌≡◌, sym, ap, ap₂, ◌∙◌}
use mathlib.Core.List.{List}
use Prim.Native.Nat.{ℕ}
use native.Mathlib.Omega.{arith}
use lib.ListN.{length}
use Rattle.refusal.specs.Outcome.{Outcome}
use Rattle.card.specs.Modes.{block_bytes}
use Rattle.interleaver_shape.specs.Shapes.{coded_bits}
use Rattle.payload_layout.specs.declared.Layout.{Layout}
use Rattle.payload_layout.specs.Layouts.{items}
use Rattle.payload.specs.Entries.{block_layout}
use Rattle.payload.proofs.ModeLaws.{layout-bits, layout-served}
use Rattle.payload.proofs.EntryLaws.{read_length, read-room, read-item, read-decided}
use Rattle.payload.proofs.read_by.Goals as goal
use Rattle.payload.proofs.read_by.Goals.{After-item_count, After-block_bytes-size, Else-items-item_count}

-- the numbers of items and of bytes are those of the card
count-is : (c : After-item_count) → c.item_count.result ≡ items (block_layout c.args.c.now)
count-is c = c.item_count.ensures ∙ ap items c.of-plan.ensures.layout

size_is : (c : After-block_bytes-size) → c.block_bytes-size.result ≡ block_bytes c.args.c.now.kind
size_is c = c.block_bytes-size.ensures ∙ ap block_bytes c.of-plan.ensures.coding.0

-- behind the check of the length there are as many items as the layout has
long : (c : Else-items-item_count) → length c.args.items.now ≡ items (block_layout c.args.c.now)
long c = c.if-items-item_count.false ∙ c.item_count.ensures ∙ ap items c.of-plan.ensures.layout

pub item_count-requires : goal.item_count-requires
item_count-requires c = rw c.of-plan.ensures.layout (layout-served c.args.c.now c.requires)

pub read_items-requires : goal.read_items-requires
read_items-requires c = (
  record {
    defined = c.of-plan.result.coding.defined;
    laid = rw c.of-plan.ensures.layout (layout-served c.args.c.now c.requires);
    count = ap (λ (L : Layout). L.coded) c.of-plan.ensures.layout ∙ layout-bits c.args.c.now ∙ sym (ap₂ coded_bits c.of-plan.ensures.coding.0 c.of-plan.ensures.coding.1);
  },
  c.if-items-item_count.false ∙ c.item_count.ensures,
  omega (arith, c.block_bytes-size.ensures, c.if-out-size.false),
)

pub returns-then-items-item_count : goal.returns-then-items-item_count
returns-then-items-item_count c =
    let count = count-is (goal.at.returns-then-items-item_count c).After-item_count in
    let law = sym (read_length c.args.c.now c.args.items.now c.args.out.now (λ e. c.if-items-item_count.true (e ∙ sym count))) in
    record {
      answer = ap (λ (o : Outcome ℕ (List ℕ)). o.report) law;
      bytes = ap (λ (o : Outcome ℕ (List ℕ)). o.out) law;
    }

pub returns-then-out-size : goal.returns-then-out-size
returns-then-out-size c =
    let size = size_is (goal.at.returns-then-out-size c).After-block_bytes-size in
    let law = sym (read-room c.args.c.now c.args.items.now c.args.out.now (long (goal.at.returns-then-out-size c).Else-items-item_count) (rw size at c.if-out-size.true)) in
    record {
      answer = rw size (ap (λ (o : Outcome ℕ (List ℕ)). o.report) law);
      bytes = ap (λ (o : Outcome ℕ (List ℕ)). o.out) law;
    }

pub returns-in-Some : goal.returns-in-Some
returns-in-Some c =
    let illegal = c.in-Some.ensures.0 in
    let size = size_is (goal.at.returns-in-Some c).After-block_bytes-size in
    let law = sym (read-item c.args.c.now c.args.items.now c.args.out.now (long (goal.at.returns-in-Some c).Else-items-item_count) (rw size at c.if-out-size.false) (rw illegal at c.in-Some.ensures.1)) in
    record {
      answer = rw illegal (ap (λ (o : Outcome ℕ (List ℕ)). o.report) law);
      bytes = ap (λ (o : Outcome ℕ (List ℕ)). o.out) law;
    }

pub returns : goal.returns
returns c =
    let (k, r, t) = c.of-plan.ensures.coding in
    let size = size_is (goal.at.returns c).After-block_bytes-size in
    let law = sym (read-decided c.args.c.now c.args.items.now c.args.out.now (long (goal.at.returns c).Else-items-item_count) (rw size at c.if-out-size.false) c.in_default.ensures) in
    record {
      answer = (rw (c.of-plan.ensures.layout, k, r, t) at c.read_items.ensures.answer) ∙ ap (λ (o : Outcome ℕ (List ℕ)). o.report) law;
      bytes = (rw (c.of-plan.ensures.layout, k, r, t) at c.read_items.ensures.bytes) ∙ ap (λ (o : Outcome ℕ (List ℕ)). o.out) law;
    }
