-- `written_card::FittingCard::put` meets its contract: each return is a row of its table. Assumes nothing.
use mathlib.Core.Path.{◌≡◌, sym, ap, ◌∙◌}
use mathlib.Core.Bool.{Bool}
use Prim.Native.Nat.{ℕ}
use lib.Dec.{ltb}
use lib.ListN.{length}
use borrow.Author.Tests.{ltb-false, lt-ltb, le-ltb}
use Rattle.refusal.specs.declared.Refusal.TheVariants.{Room}
use Rattle.std.specs.Prelude.{Err}
use Rattle.refusal.specs.Report.{answer}
use Rattle.card.specs.Card.{card_bytes}
use Rattle.written_card.specs.Loops.Fields.{put_card}
use Rattle.written_card.proofs.RowLaws.{put-short, said}
use Rattle.written_card.proofs.FittingCard.put.Goals as goal
use Rattle.written_card.proofs.FittingCard.put.Goals.{After-card_bytes-bytes}

-- the test of row 5 with the length that the version has
short-is : (c : After-card_bytes-bytes) (b : Bool) → ltb (length c.args.out.now) c.card_bytes-bytes.result ≡ b
    → ltb (length c.args.out.now) (card_bytes c.args.self.now.card.version) ≡ b
short-is c b e = rw (← c.card_bytes-bytes.ensures) e

pub returns-then-out-bytes : goal.returns-then-out-bytes
returns-then-out-bytes c =
    let law = put-short _ _ (short-is (goal.at.returns-then-out-bytes c).After-card_bytes-bytes _ (lt-ltb _ _ c.if-out-bytes.true)) in
    record {
      answer = ap (λ n. answer {A = ℕ} (Err (Room n))) c.card_bytes-bytes.ensures ∙ sym (ap (λ o. o.report) law);
      bytes = sym (ap (λ o. o.out) law);
    }

pub returns-then-is_unsaid : goal.returns-then-is_unsaid
unfolding put_card
returns-then-is_unsaid c =
    let room = short-is (goal.at.returns-then-is_unsaid c).After-card_bytes-bytes _ (le-ltb _ _ c.if-out-bytes.false) in
    let unsaid = sym c.is_unsaid.ensures ∙ c.if-is_unsaid.true in
    record {
      answer = simp (room, unsaid);
      bytes = simp (room, unsaid);
    }

pub store-requires : goal.store-requires
store-requires c =
    let room = short-is (goal.at.store-requires c).After-card_bytes-bytes _ (le-ltb _ _ c.if-out-bytes.false) in
    let says = sym c.is_unsaid.ensures ∙ c.if-is_unsaid.false in
    (said c.args.self.now.card says, ltb-false _ _ room)

pub returns : goal.returns
unfolding put_card
returns c =
    let room = short-is (goal.at.returns c).After-card_bytes-bytes _ (le-ltb _ _ c.if-out-bytes.false) in
    let says = sym c.is_unsaid.ensures ∙ c.if-is_unsaid.false in
    record {
      answer = rw c.card_bytes-bytes.ensures (simp (room, says));
      bytes = simp (room, says) c.store.ensures;
    }
