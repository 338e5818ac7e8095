-- What the entries' definitions come to, by what the gate says of the card. Assumes nothing.
use mathlib.Core.Path.{◌≡◌, refl, sym, ap, ◌∙◌}
use mathlib.Core.List.{List, ◌++◌}
use Prim.Native.Nat.{ℕ}
use native.Mathlib.Omega.{arith}
use lib.ListN.{get_or, drop}
use Rattle.bits.specs.Bits.{bit_of, bytes_of}
use Rattle.bits.specs.Lists.{tabulate, written}
use Rattle.bits.proofs.ListLaws.{get_or-tabulate, get_or-written, written-ext}
use Rattle.interleaver_shape.specs.Shapes.{coded_bits}
use Rattle.card.proofs.ModeLaws.{defined-half}
use Rattle.interleaver_shape.proofs.ShapeLaws.{coded-half}
use Rattle.fec.specs.Coding.{coded_bit}
use Rattle.diversity.specs.Lanes.{lane_bit, item_count}
use Rattle.diversity.proofs.LaneLaws.{lane_below}
use Rattle.refusal.specs.declared.Refusal.{Refusal}
use Rattle.refusal.specs.Report.{done, refusal}
use Rattle.refusal.specs.Outcome.{Row}
use Rattle.refusal.proofs.OutcomeLaws.{NoneApplies, none-outcome}
use Rattle.card.specs.declared.Card.{Card}
use Rattle.card.specs.Gate.{gate}
use Rattle.card.proofs.GateLaws.{gate-refuses, gate-passes}
use Rattle.recovery.specs.Recovery.{data_bit, recover_rows, recovered}
use Rattle.recovery.proofs.RecoveryLaws.{recovered-ext}
use Rattle.bands.specs.Bands.{offsets, carriers}
use Rattle.frame_control.specs.Entries.{word_rows, sent_item, send_by, send, decided_bit, item_rows, read_rows, read_by, read}

-- ---- by what the gate says of the card

module _ (card word out : List ℕ) where
  rows_at : Card → List Row
  rows_at d = word_rows (carriers d.band) (offsets d.band) word out

  made_at : Card → List ℕ
  made_at d = written (item_count (carriers d.band) (offsets d.band)) (sent_item (carriers d.band) (offsets d.band) d.taps word) out

  pub send-refused : (r : Refusal) → gate 0 0 card ≡ refusal r → send card word out ≡ record { report = refusal r; out = out }
  unfolding send rows_at made_at
  send-refused r e = gate-refuses 0 0 card rows_at out (λ d. item_count (carriers d.band) (offsets d.band)) made_at refl r e

  pub send-passed : (c : Card) → gate 0 0 card ≡ done c → send card word out ≡ send_by (carriers c.band) (offsets c.band) c.taps word out
  unfolding send send_by rows_at made_at
  send-passed c e = gate-passes 0 0 card rows_at out (λ d. item_count (carriers d.band) (offsets d.band)) made_at refl c e

module _ (card items out : List ℕ) where
  read_rows_at : Card → List Row
  read_rows_at d = read_rows (carriers d.band) (offsets d.band) d.taps items out

  read_at : Card → List ℕ
  read_at d = bytes_of 16 (data_bit 0 0 (decided_bit (carriers d.band) (offsets d.band) items)) ++ drop 16 out

  pub read-refused : (r : Refusal) → gate 0 0 card ≡ refusal r → read card items out ≡ record { report = refusal r; out = out }
  unfolding read read_rows_at read_at
  read-refused r e = gate-refuses 0 0 card read_rows_at out (λ d. 16) read_at refl r e

  pub read-passed : (c : Card) → gate 0 0 card ≡ done c → read card items out ≡ read_by (carriers c.band) (offsets c.band) c.taps items out
  unfolding read read_by read_rows_at read_at
  read-passed c e = gate-passes 0 0 card read_rows_at out (λ d. 16) read_at refl c e

-- ---- over any carriers of a symbol and offsets

module _ (C : ℕ) (os : List ℕ) (taps : ℕ) where
  -- the items that the loops leave: copies of the coded bits
  pub items-sent : (word coded zeros out now : List ℕ) → coded ≡ written (coded_bits 0 0) (coded_bit 0 0 taps (bit_of word)) zeros
      → now ≡ written (item_count C os) (λ n. get_or coded (lane_bit C os n) 0) out → now ≡ written (item_count C os) (sent_item C os taps word) out
  unfolding sent_item
  items-sent word coded zeros out now e g =
      g ∙ written-ext (item_count C os) (λ n. get_or coded (lane_bit C os n) 0) (λ n. coded_bit 0 0 taps (bit_of word) (lane_bit C os n)) out (λ n h.
      ap (λ (l : List ℕ). get_or l (lane_bit C os n) 0) e
      ∙ get_or-written (coded_bits 0 0) (coded_bit 0 0 taps (bit_of word)) zeros (lane_bit C os n) 0 (omega (arith, lane_below C os n, coded-half 0 (omega arith))))

  -- items that the rows let pass come to what their decided bits recover
  pub read-legal : (items out : List ℕ) → NoneApplies (item_rows C os items out) → read_by C os taps items out ≡ recovered 0 0 taps (decided_bit C os items) out
  unfolding read_by recovered
  read-legal items out none =
      none-outcome {A = ℕ} (item_rows C os items out) (recover_rows 0 0 taps (decided_bit C os items)) out 16 (bytes_of 16 (data_bit 0 0 (decided_bit C os items)) ++ drop 16 out) none

  pub read-decided : (items out decided : List ℕ) → NoneApplies (item_rows C os items out) → decided ≡ tabulate 256 (decided_bit C os items)
      → read_by C os taps items out ≡ recovered 0 0 taps (λ i. get_or decided i 0) out
  read-decided items out decided none e =
      read-legal items out none
      ∙ recovered-ext 0 0 (defined-half 0 (omega arith)) (decided_bit C os items) (λ i. get_or decided i 0)
      (λ i h. sym (ap (λ (l : List ℕ). get_or l i 0) e ∙ get_or-tabulate 256 (decided_bit C os items) i 0 (omega (arith, coded-half 0 (omega arith))))) taps out
