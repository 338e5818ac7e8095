-- The demands, proved from what the crates have. Assumes nothing.
use mathlib.Core.Bool.{Bool, true, false, ◌&&◌}
use mathlib.Core.List.{List, ◌++◌}
use mathlib.Core.Path.{◌≡◌, refl, sym, ap, ◌∙◌}
use Prim.Native.Nat.{ℕ, ◌*◌}
use native.Mathlib.Nat.{mul_assoc, mul_comm}
use native.Mathlib.Omega.{arith}
use lib.Dec.{leb, ltb}
use lib.ListN.{length, get_or}
use borrow.Author.Tests.{leb-true, leb-false, lt-ltb, le-ltb}
use Rattle.bits.specs.Lists.{tabulate}
use Rattle.bits.proofs.ListLaws.{get_or-tabulate}
use Rattle.bits.proofs.RangeLaws.{under, agree}
use Rattle.refusal.proofs.OutcomeLaws.{kept}
use Rattle.slicing.specs.Carriers.{through_points}
use Rattle.slicing.proofs.RoundTrip.{list_back}
use Rattle.bands.specs.Bands.{band_count, carriers, offsets}
use Rattle.diversity.specs.Lanes.{carrier_count, item_count}
use Rattle.frame_control.specs.Entries.{carriers_of, offsets_of, item_count_of, taps_of, word_rows, read_rows, sent_item, send, read}
use Rattle.frame_control.specs.Words.{made}
use Rattle.frame_control.proofs.FrameLaws.{send-good, made-is, clean, comes_back, refused-at-limit, made-length, made-binary}
use Rattle.card.specs.Card.{card_of}
use Rattle.card.specs.Modes.{block_bytes, carrier_bits, defined_mode}
use Rattle.card.specs.Entries.{field_rows, read_fields}
use Rattle.written_card.specs.Entries.{write_rows, write_card, move_rows, move_card}
use Rattle.card.specs.Gate.{gate_rows}
use Rattle.printed_card.specs.Text.{text_rows, text_card}
use Rattle.card.proofs.GateLaws.{gate-served}
use Rattle.written_card.proofs.RoundTrip.{write-after-read, read-after-write}
use Rattle.written_card.proofs.MoveLaws.{moves-up, moves-back, back-only-single, stays, there_and_back, same_version}
use Rattle.constellation.specs.Entries.{map_rows, map_outcome}
use Rattle.slicing.specs.Entries.{slice_rows, slice_outcome}
use Rattle.diversity.proofs.BandLaws.{band-range, band-fewest-met, band-most-met, fewest-of}
use Rattle.payload_layout.specs.Items.{sent_on}
use Rattle.payload_layout.proofs.CarriedLaws.{all-used, one-carried, carried-below}
use Rattle.payload_layout.proofs.ItemLaws.{sent-carries, unused-carries, unused-sent}
use Rattle.payload_layout.specs.Layouts.{layout_by, layout_for, layout_of, items}
use Rattle.payload.specs.Entries.{layout_of_card, send_rows, send as payload_send, read_rows as payload_read_rows, read as payload_read}
use Rattle.payload.specs.Words.{made as payload_made}
use Rattle.payload.proofs.ModeLaws.{mode-pads, layout-bits, copies-as-said, layout-within, layout-served, layout-items}
use Rattle.payload.proofs.ReturnLaws.{block_bits, send-good as payload-sent, made-is as payload-made-is, copies_of, copies-at-least, copies-at-most, alike, clean as payload-clean, survives as payload-back, survives-copies as payload-back-copies, made-length as payload-length, made-binary as payload-binary}
use Rattle.demands.specs.Demands.{Keeps, Outgoing, PayloadOutgoing, CardWritten, CardReadAgain, CardMoved, CleanReturn, PayloadCleanReturn, PayloadSurvives, PayloadSurvivesCopies, PayloadCopies, SentOnce, UnusedSilent, UnusedUnheard, Lanes, Fewest, Survives, BestPossible, BandsOfCards, PadWithin, CardPadWithin, Lengths}

-- ---- Demand 1

pub keeps : Keeps
unfolding read_fields write_card move_card text_card map_outcome slice_outcome send read payload_send payload_read
keeps =
    record {
      card-read = λ bytes fields. kept {A = ℕ} (field_rows bytes fields) fields _ _;
      card-write = λ c out. kept {A = ℕ} (write_rows c out) out _ _;
      card-move = λ bytes version out. kept {A = ℕ} (move_rows bytes version out) out _ _;
      card-text = λ bytes out. kept {A = ℕ} (text_rows bytes out) out _ _;
      map = λ modulation bits point. kept {A = ℕ} (map_rows modulation bits point) point _ _;
      slice = λ modulation received out. kept {A = ℕ} (slice_rows modulation out) out _ _;
      frame-send = λ card word out. kept {A = ℕ} (gate_rows 0 0 card ++ word_rows (carriers_of card) (offsets_of card) word out) out _ _;
      frame-read = λ card items out. kept {A = ℕ} (gate_rows 0 0 card ++ read_rows (carriers_of card) (offsets_of card) (taps_of card) items out) out _ _;
      payload-send = λ card block out. kept {A = ℕ} (gate_rows 1 4 card ++ send_rows (card_of card) block out) out _ _;
      payload-read = λ card items out. kept {A = ℕ} (gate_rows 1 4 card ++ payload_read_rows (card_of card) items out) out _ _;
    }

-- ---- Demand 2

pub outgoing : Outgoing
unfolding sent_item
outgoing card word good is out room = (
  ap (λ o. o.report) (send-good card word good is out room),
  λ n h. ap (λ (l : List ℕ). get_or l n 0) (made-is card word good is out room) ∙ get_or-tabulate (item_count_of card) (sent_item (carriers_of card) (offsets_of card) (taps_of card) word) n 0 h,
)

pub payload-outgoing : PayloadOutgoing
payload-outgoing card block good is out room = (
  ap (λ o. o.report) (payload-sent card good block is out room),
  λ n b h t.
      ap (λ (l : List ℕ). get_or l n 0) (payload-made-is card good block is out room)
      ∙ get_or-tabulate (items (layout_of_card card)) (sent_on (layout_of_card card) (block_bits card block)) n 0 h
      ∙ sent-carries (layout_of_card card) (block_bits card block) n b t,
)

pub card-written : CardWritten
card-written = write-after-read

pub card-read-again : CardReadAgain
card-read-again = read-after-write

pub card-moved : CardMoved
card-moved bytes small c read =
    record {
      moves-up = moves-up bytes c read;
      moves-back = moves-back bytes c read;
      back-only-single = back-only-single bytes c read;
      stays = stays bytes c read;
      there_and_back = there_and_back bytes c read small;
      same_version = same_version bytes c read small;
    }

two-a-carrier : (C : ℕ) (os : List ℕ) → item_count C os ≡ 2 * carrier_count C os
unfolding item_count
two-a-carrier C os = refl

pub clean-return : CleanReturn
clean-return card word good is out back room space = (clean card word good is out back room space, through)
  where
    through : tabulate (item_count_of card) (through_points 1 (λ n. get_or (made card word out) n 0)) ≡ made card word out
    through =
        let long = made-length card word good is out room in
        let two : length (made card word out) ≡ 2 * carrier_count (carriers_of card) (offsets_of card) = long ∙ two-a-carrier (carriers_of card) (offsets_of card) in
        ap (λ (n : ℕ). tabulate n (through_points 1 (λ n. get_or (made card word out) n 0))) (sym long)
        ∙ list_back 1 (made card word out) (carrier_count (carriers_of card) (offsets_of card)) (omega arith) two (λ k h. made-binary card word good is out room k (omega arith))

-- ---- Demand 3

pub lanes : Lanes
lanes band h = record { between = band-range band h; fewest-met = band-fewest-met band h; most-met = band-most-met band h }

pub fewest : Fewest
fewest = fewest-of

pub survives : Survives
survives card word good is out items back room space damage h = comes_back card word good is out items back room damage space h

pub best-possible : BestPossible
best-possible card word good is out back room space = refused-at-limit card word good is out back room space

-- a carrier's items are as many as the modulation has bits
whole-carriers : (card : List ℕ) → items (layout_of_card card) ≡ carrier_bits (card_of card).modulation * ((layout_of_card card).symbols * (layout_of_card card).carriers)
unfolding items layout_of layout_for layout_by
whole-carriers card = let L = layout_of_card card in sym (mul_assoc L.symbols L.carriers L.bits) ∙ mul_comm (L.symbols * L.carriers) L.bits

pub payload-clean-return : PayloadCleanReturn
payload-clean-return card block good is out back room space = (payload-clean card good block is out back room space, through)
  where
    through : tabulate (items (layout_of_card card)) (through_points (card_of card).modulation (λ n. get_or (payload_made card block out) n 0)) ≡ payload_made card block out
    through =
        let long = payload-length card good block is out room in
        ap (λ (n : ℕ). tabulate n (through_points (card_of card).modulation (λ n. get_or (payload_made card block out) n 0))) (sym long)
        ∙ list_back (card_of card).modulation (payload_made card block out) _ (gate-served 1 4 card (card_of card) good).modulation-lt (long ∙ whole-carriers card)
        (λ k h. payload-binary card good block is out room k (omega arith))

pub payload-survives-copies : PayloadSurvivesCopies
payload-survives-copies card block good is out received back room damage space few = payload-back-copies card good block is out received back room damage space few

pub payload-survives : PayloadSurvives
payload-survives card block good is out received back room damage space few = payload-back card good block is out received back room damage space few

-- the bands that cards know are those of the table
pub bands-of-cards : BandsOfCards
unfolding defined_mode
bands-of-cards band kind rate modulation = apart (leb band 3) _ _ _ _ ∙ ap (λ b. b && defined_mode 0 kind rate modulation) (known (leb band 3) refl)
  where
    apart : (b k m r q : Bool) → (b && k && m && r && q) ≡ (b && (true && k && m && r && q))
    apart true k m r q = refl
    apart false k m r q = refl

    known : (b : Bool) → leb band 3 ≡ b → b ≡ ltb band band_count
    known true e = sym (lt-ltb band band_count (omega (arith, leb-true band 3 e)))
    known false e = sym (le-ltb band band_count (omega (arith, leb-false band 3 e)))

pub pad-within : PadWithin
unfolding layout_of layout_for layout_by
pad-within band kind rate modulation copies is other counts = mode-pads band kind rate modulation copies is (omega (arith, other)) counts

pub card-pad-within : CardPadWithin
unfolding layout_of layout_for layout_by
card-pad-within card good =
    let c = card_of card in
    let served = gate-served 1 4 card c good in (
      rw (copies-as-said c) at (layout-within c served),
      λ n h u. rw (layout-bits c) at (carried-below (layout_of_card card) (layout-served c served) n h u),
    )

pub payload-copies : PayloadCopies
payload-copies card good b h = (copies_of card good b h, copies-at-least card good b h, copies-at-most card good b h)

pub sent-once : SentOnce
unfolding layout_of layout_for layout_by
sent-once card good one n h =
    let c = card_of card in
    let s = (layout-served c (gate-served 1 4 card c good)).sound in
    let once = copies-as-said c ∙ one in
    (all-used (layout_of_card card) s once n h, rw (layout-bits c) at (one-carried (layout_of_card card) s once n h))

pub unused-silent : UnusedSilent
unused-silent card block good is out room n h u = (
  λ b. unused-carries (layout_of_card card) n b u,
  ap (λ (l : List ℕ). get_or l n 0) (payload-made-is card good block is out room)
      ∙ get_or-tabulate (items (layout_of_card card)) (sent_on (layout_of_card card) (block_bits card block)) n 0 h ∙ unused-sent (layout_of_card card) (block_bits card block) n u,
)

pub unused-unheard : UnusedUnheard
unused-unheard card good left right back dl dr same = alike card good left right back dl dr same

pub lengths : Lengths
unfolding item_count carrier_count carriers offsets
lengths = (
  agree band_count _ _ tt,
  λ card good.
      let c = card_of card in
      let served = gate-served 1 4 card c good in
      let bytes = under 5 521 block_bytes tt c.kind served.kinds.kind-lt in
      (layout-items c served, omega arith),
)
