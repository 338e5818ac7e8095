-- Clean return and demand 3: over any carriers C of a symbol and offsets os, and under a good card. Assumes nothing.
use mathlib.Core.Path.{◌≡◌, sym, ap, ◌∙◌}
use mathlib.Core.Bool.{not}
use mathlib.Core.List.{List, ◌++◌}
use Prim.Native.Nat.{ℕ, ◌+◌, ◌*◌, ◌≤◌, ◌<◌}
use native.Mathlib.Omega.{arith}
use lib.Dec.{ltb, ltb→lt}
use lib.ListN.{length, get_or, take, drop}
use lib.Seq.{take_at}
use borrow.Author.Tests.{le-ltb, eq-eqb}
use Rattle.bits.specs.Bits.{bit_of, bytes_of}
use Rattle.bits.specs.Lists.{tabulate, written, first_above}
use Rattle.bits.proofs.BitLaws.{bit-binary, bytes_bits}
use Rattle.bits.proofs.RangeLaws.{at_each}
use Rattle.bits.proofs.ListLaws.{length-tabulate, get_or-tabulate}
use Rattle.refusal.specs.Report.{done, number}
use Rattle.refusal.proofs.OutcomeLaws.{outcome-good}
use Rattle.card.specs.Card.{card_of}
use Rattle.card.proofs.GateLaws.{gate-served}
use Rattle.card.proofs.ModeLaws.{defined-half}
use Rattle.interleaver_shape.specs.Shapes.{coded_bits}
use Rattle.interleaver_shape.proofs.ShapeLaws.{coded-half}
use Rattle.fec.specs.Coding.{coded_bit}
use Rattle.fec.proofs.CodingLaws.{coded-binary}
use Rattle.recovery.specs.Recovery.{first_undecided, recovered}
use Rattle.recovery.proofs.RecoveryLaws.{clean-return, undecided-le, refused-majority}
use Rattle.votes.specs.Damage.{Damage, altered, lost}
use Rattle.votes.proofs.DamageLaws.{none_above}
use Rattle.bands.specs.Bands.{band_count}
use Rattle.diversity.specs.Lanes.{lane_bit, carrier_count, item_count}
use Rattle.diversity.specs.Copies.{fewest_copies, band_fewest}
use Rattle.diversity.proofs.LimitLaws.{below-limit, at-limit, no-damage}
use Rattle.diversity.proofs.BandLaws.{fewest-of}
use Rattle.frame_control.specs.Entries.{carriers_of, offsets_of, item_count_of, taps_of, word_rows, sent_item, send_by, send, decided_bit, read_by, read}
use Rattle.frame_control.specs.Words.{GoodCard, Word, made}
use Rattle.frame_control.proofs.EntryLaws.{send-passed, read-passed, read-legal}

coded-256 : coded_bits 0 0 ≡ 256
coded-256 = coded-half 0 (omega arith)

-- ---- any carriers and offsets

module _ (C : ℕ) (os : List ℕ) (taps : ℕ) (word : List ℕ) (is : Word word) where
  -- the coded bits of the word, and their copies
  abbrev coded : ℕ → ℕ
  coded = coded_bit 0 0 taps (bit_of word)

  abbrev sent_items : List ℕ
  sent_items = tabulate (item_count C os) (sent_item C os taps word)

  binary : (b : ℕ) → coded b < 2
  binary b = coded-binary 0 0 (defined-half 0 (omega arith)) taps (bit_of word) (λ j h. bit-binary word j) b

  copy_at : (n : ℕ) → n < item_count C os → get_or sent_items n 0 < 2
  unfolding sent_item
  copy_at n h = rw (get_or-tabulate (item_count C os) (sent_item C os taps word) n 0 h) (binary (lane_bit C os n))

  word-sent : (out : List ℕ) → item_count C os ≤ length out
      → send_by C os taps word out ≡ record { report = done (item_count C os); out = written (item_count C os) (sent_item C os taps word) out }
  unfolding send_by
  word-sent out room = outcome-good {A = ℕ} (word_rows C os word out) out _ _ (ap not (eq-eqb (length word) 16 is.long), (le-ltb (length out) (item_count C os) room, tt))

  -- legal items of the right number come to the decided bits
  items-read : (items back : List ℕ) → Damage (item_count C os) items → 16 ≤ length back
      → read_by C os taps items back ≡ recovered 0 0 taps (decided_bit C os items) back
  items-read items back damage space =
      read-legal C os taps items back (
        ap not (eq-eqb (length items) (item_count C os) damage.long),
        (le-ltb (length back) 16 space, (le-ltb (first_above 2 items) (length items) (omega (arith, none_above _ items damage)), tt)),
      )

  -- a reception whose bits are all decided as sent
  word_back : (items back : List ℕ) → Damage (item_count C os) items → 16 ≤ length back → tabulate 256 (decided_bit C os items) ≡ tabulate 256 coded
      → read_by C os taps items back ≡ record { report = done 16; out = word ++ drop 16 back }
  word_back items back damage space same =
      items-read items back damage space
      ∙ clean-return 0 0 (defined-half 0 (omega arith)) taps (bit_of word) (λ j h. bit-binary word j) (decided_bit C os items)
      (λ i h. sym (get_or-tabulate 256 (decided_bit C os items) i 0 (omega (arith, coded-256))) ∙ ap (λ (l : List ℕ). get_or l i 0) same ∙ get_or-tabulate 256 coded i 0 (omega (arith, coded-256)))
      back
      ∙ ap (λ (l : List ℕ). record { report = done 16; out = l ++ drop 16 back }) (ap (λ (n : ℕ). bytes_of n (bit_of word)) (sym is.long) ∙ bytes_bits word is.bytes)

  -- below the fewest copies the word comes back exact
  pub back_below : (items back : List ℕ) → Damage (item_count C os) items → 16 ≤ length back
      → 2 * altered (carrier_count C os) sent_items items + lost (carrier_count C os) sent_items items < fewest_copies C os
      → read_by C os taps items back ≡ record { report = done 16; out = word ++ drop 16 back }
  unfolding sent_item
  back_below items back damage space h = word_back items back damage space (below-limit C os coded binary items damage h)

  -- some damage of exactly the fewest is refused with 7
  pub refused-at : (back : List ℕ) → 16 ≤ length back
      → (items : List ℕ) × Damage (item_count C os) items
      × (2 * altered (carrier_count C os) sent_items items + lost (carrier_count C os) sent_items items ≡ fewest_copies C os)
      × (number (read_by C os taps items back).report ≡ 7)
  unfolding sent_item item_count
  refused-at back space =
      let (items, b, l, u) = at-limit C os coded binary in
      let first : first_undecided 0 0 (decided_bit C os items) < coded_bits 0 0
      = omega (arith, undecided-le 0 0 (decided_bit C os items) b (omega (arith, u.undecided)), coded-256) in
      let refused = items-read items back u.damage space ∙ refused-majority 0 0 taps (decided_bit C os items) back first in
      (items, u.damage, omega (arith, u.none-altered, u.carriers-lost), ap (λ o. number o.report) refused)

  -- undamaged it comes back where every bit has a copy
  pub back-clean : 0 < fewest_copies C os → (back : List ℕ) → 16 ≤ length back
      → read_by C os taps sent_items back ≡ record { report = done 16; out = word ++ drop 16 back }
  unfolding sent_item
  back-clean some back space =
      word_back sent_items back (record { long = length-tabulate (item_count C os) _; legal = λ n h. omega (arith, copy_at n h) }) space (no-damage C os coded binary some)

-- ---- a good card

pub good-band : (card : List ℕ) → GoodCard card → (card_of card).band < band_count
good-band card good = (gate-served 0 0 card (card_of card) good).band-lt

some-copies : (band : ℕ) → band < band_count → 0 < band_fewest band
some-copies band h = ltb→lt 0 (band_fewest band) (at_each band_count (λ k. ltb 0 (band_fewest k)) tt band h)

module _ (card word : List ℕ) (good : GoodCard card) (is : Word word) where
  -- sending a word under a good card
  pub send-good : (out : List ℕ) → item_count_of card ≤ length out
      → send card word out ≡ record { report = done (item_count_of card); out = written (item_count_of card) (sent_item (carriers_of card) (offsets_of card) (taps_of card) word) out }
  send-good out room = send-passed card word out (card_of card) good ∙ word-sent (carriers_of card) (offsets_of card) (taps_of card) word is out room

  -- what was made, whatever lies beyond
  pub made-is : (out : List ℕ) → item_count_of card ≤ length out → made card word out ≡ tabulate (item_count_of card) (sent_item (carriers_of card) (offsets_of card) (taps_of card) word)
  unfolding written
  made-is out room =
      ap (λ o. take (item_count_of card) o.out) (send-good out room)
      ∙ take_at (sent_items (carriers_of card) (offsets_of card) (taps_of card) word is) (drop (item_count_of card) out) (item_count_of card) (length-tabulate (item_count_of card) _)

  -- Demand 3, first half: below the fewest copies the word comes back exact.
  pub comes_back : (out items back : List ℕ) → item_count_of card ≤ length out → Damage (item_count_of card) items → 16 ≤ length back
      → 2 * altered (carrier_count (carriers_of card) (offsets_of card)) (made card word out) items + lost (carrier_count (carriers_of card) (offsets_of card)) (made card word out) items
      < fewest_copies (carriers_of card) (offsets_of card)
      → read card items back ≡ record { report = done 16; out = word ++ drop 16 back }
  comes_back out items back room damage space h =
      read-passed card items back (card_of card) good
      ∙ back_below (carriers_of card) (offsets_of card) (taps_of card) word is items back damage space (rw (made-is out room) at h)

  -- Demand 3, second half: some damage of exactly the fewest copies is refused with 7.
  pub refused-at-limit : (out back : List ℕ) → item_count_of card ≤ length out → 16 ≤ length back
      → (items : List ℕ) × Damage (item_count_of card) items
      × (2 * altered (carrier_count (carriers_of card) (offsets_of card)) (made card word out) items + lost (carrier_count (carriers_of card) (offsets_of card)) (made card word out) items
      ≡ fewest_copies (carriers_of card) (offsets_of card))
      × (number (read card items back).report ≡ 7)
  refused-at-limit out back room space =
      let (items, damage, weight, seven) = refused-at (carriers_of card) (offsets_of card) (taps_of card) word is back space in
      (items, damage, rw (made-is out room) weight, ap (λ o. number o.report) (read-passed card items back (card_of card) good) ∙ seven)

  -- Clean return: what was sent, read with the same card, answers 0 and gives the word.
  pub clean : (out back : List ℕ) → item_count_of card ≤ length out → 16 ≤ length back
      → read card (made card word out) back ≡ record { report = done 16; out = word ++ drop 16 back }
  clean out back room space =
      let band = good-band card good in
      let some : 0 < fewest_copies (carriers_of card) (offsets_of card) = omega (arith, fewest-of (card_of card).band band, some-copies (card_of card).band band) in
      rw (made-is out room)
      (read-passed card (sent_items (carriers_of card) (offsets_of card) (taps_of card) word is) back (card_of card) good
      ∙ back-clean (carriers_of card) (offsets_of card) (taps_of card) word is some back space)

  -- what was made is so many bits
  pub made-length : (out : List ℕ) → item_count_of card ≤ length out → length (made card word out) ≡ item_count_of card
  made-length out room = ap length (made-is out room) ∙ length-tabulate (item_count_of card) _

  pub made-binary : (out : List ℕ) → item_count_of card ≤ length out → (n : ℕ) → n < item_count_of card → get_or (made card word out) n 0 < 2
  made-binary out room n h = rw (made-is out room) (copy_at (carriers_of card) (offsets_of card) (taps_of card) word is n h)
