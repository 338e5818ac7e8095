-- `slicing::slice_into` meets its contract: each return is a row of the outcome, or none applies. Assumes nothing.
use mathlib.Core.Path.{◌≡◌, ap, ◌∙◌}
use Rattle.constellation.proofs.EntryLaws.{both}
use Rattle.slicing.specs.declared.Received.{Received}
use Rattle.slicing.specs.Slicing.{items_of, items_in}
use Rattle.slicing.specs.Entries.{received_of}
use Rattle.slicing.proofs.EntryLaws.{slice-mode, slice-room, slice-done, items-fit}
use Rattle.slicing.proofs.slice_into.Goals as goal
use Rattle.slicing.proofs.slice_into.Goals.{After-items_of}

-- the carrier that the number and the coordinates say was sliced
answered : (c : After-items_of) → items_in c.items_of.result ≡ items_of c.args.modulation (received_of c.args.heard c.args.i c.args.q)
answered c = c.items_of.ensures ∙ ap (λ (r : Received). items_of c.args.modulation r) c.received_of.ensures

pub returns-then-modulation-gt2 : goal.returns-then-modulation-gt2
returns-then-modulation-gt2 c =
    let both = both (slice-mode _ _ _ c.if-modulation-gt2.true) in record { answer = both.0; items = both.1 }

pub returns-then-items-n : goal.returns-then-items-n
returns-then-items-n c =
    let both = both (slice-room _ _ _ c.if-modulation-gt2.false c.carrier_bits-n.ensures c.if-items-n.true) in record { answer = both.0; items = both.1 }

pub put_items-requires : goal.put_items-requires
put_items-requires c =
    items-fit c.args.modulation (received_of c.args.heard c.args.i c.args.q) c.if-modulation-gt2.false c.carrier_bits-n.ensures c.if-items-n.false (items_in c.items_of.result) (answered (goal.at.put_items-requires c).After-items_of)

pub returns : goal.returns
returns c =
    let made = both (slice-done _ _ _ c.if-modulation-gt2.false c.carrier_bits-n.ensures c.if-items-n.false (items_in c.items_of.result) (answered (goal.at.returns c).After-items_of)) in
    record {
      answer = made.0;
      items = c.put_items.ensures ∙ made.1;
    }
