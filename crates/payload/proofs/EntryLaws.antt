-- What the entries come to, case by case: by what the gate says of the card, and then by each row behind it. Assumes nothing.
use mathlib.Core.Path.{◌≡◌, refl, sym, ap, ◌∙◌}
use mathlib.Core.Bool.{not}
use mathlib.Core.List.{List, ◌++◌}
use Prim.Native.Nat.{ℕ, ◌*◌, ◌≤◌, ◌<◌}
use native.Mathlib.Omega.{arith}
use lib.ListN.{length, drop}
use borrow.Author.Tests.{lt-ltb, le-ltb, eq-eqb, ne_eqb, ltb-false}
use Rattle.bits.specs.Bits.{bytes_of}
use Rattle.bits.specs.Lists.{first_above}
use Rattle.bits.proofs.BitLaws.{Binary}
use Rattle.refusal.specs.declared.Refusal.{Refusal}
use Rattle.refusal.specs.declared.Refusal.TheVariants.{Length, Room, Item}
use Rattle.refusal.specs.Report.{done, refusal}
use Rattle.refusal.specs.Outcome.{Outcome}
use Rattle.refusal.proofs.OutcomeLaws.{done-same, outcome-done, outcome-good, none-outcome, refused-alike}
use Rattle.card.specs.declared.Card.{Card}
use Rattle.card.specs.Modes.{block_bytes, Defined}
use Rattle.card.specs.Gate.{gate}
use Rattle.card.proofs.GateLaws.{gate-refuses, gate-passes}
use Rattle.scrambler.specs.Scrambler.{scrambled, scramble}
use Rattle.scrambler.proofs.ScramblerLaws.{scramble-bytes}
use Rattle.interleaver_shape.specs.Shapes.{coded_bits}
use Rattle.interleaver.specs.Source.{coded_at}
use Rattle.interleaver.proofs.InterleaverLaws.{coded-lt}
use Rattle.fec.proofs.CodingLaws.{coded-count}
use Rattle.recovery.specs.Recovery.{data_bit, first_undecided, recover_rows, recovered}
use Rattle.recovery.proofs.RecoveryLaws.{all-decided}
use Rattle.payload_layout.specs.declared.Layout.{Layout}
use Rattle.payload_layout.specs.Layouts.{items}
use Rattle.payload.specs.Entries.{block_layout, send_rows, items_made, send_by, send, decided_bit, block_made, item_rows, read_rows, decided_block, read_by, read}

-- ---- by what the gate says of the card

module _ (card block out : List ℕ) where
  pub send-refused : (r : Refusal) → gate 1 4 card ≡ refusal r → send card block out ≡ record { report = refusal r; out = out }
  unfolding send
  send-refused r e = gate-refuses 1 4 card (λ c. send_rows c block out) out (λ c. items (block_layout c)) (λ c. items_made c block out) refl r e

  pub send-passed : (c : Card) → gate 1 4 card ≡ done c → send card block out ≡ send_by c block out
  unfolding send send_by
  send-passed c e = gate-passes 1 4 card (λ c. send_rows c block out) out (λ c. items (block_layout c)) (λ c. items_made c block out) refl c e

module _ (card received out : List ℕ) where
  abbrev made : Card → List ℕ
  made c = block_made c.kind c.rate (decided_bit (block_layout c) received) out

  pub read-refused : (r : Refusal) → gate 1 4 card ≡ refusal r → read card received out ≡ record { report = refusal r; out = out }
  unfolding read
  read-refused r e = gate-refuses 1 4 card (λ c. read_rows c received out) out (λ c. block_bytes c.kind) made refl r e

  pub read-passed : (c : Card) → gate 1 4 card ≡ done c → read card received out ≡ read_by c received out
  unfolding read read_by
  read-passed c e = gate-passes 1 4 card (λ c. read_rows c received out) out (λ c. block_bytes c.kind) made refl c e

-- ---- behind the card

module _ (c : Card) where
  abbrev L : Layout
  L = block_layout c

  -- sending

  module _ (block out : List ℕ) where
    pub send-length : (length block ≡ block_bytes c.kind → ⊥) → send_by c block out ≡ record { report = refusal (Length (length block)); out = out }
    unfolding send_by
    send-length h = simp (ne_eqb (length block) (block_bytes c.kind) h)

    module _ (long : length block ≡ block_bytes c.kind) where
      pub send-room : length out < items L → send_by c block out ≡ record { report = refusal (Room (items L)); out = out }
      unfolding send_by
      send-room h = simp (eq-eqb (length block) (block_bytes c.kind) long, lt-ltb (length out) (items L) h)

      pub send-done : items L ≤ length out → send_by c block out ≡ record { report = done (items L); out = items_made c block out }
      unfolding send_by
      send-done h = simp (eq-eqb (length block) (block_bytes c.kind) long, le-ltb (length out) (items L) h)

  -- reading

  module _ (received out : List ℕ) where
    pub read_length : (length received ≡ items L → ⊥) → read_by c received out ≡ record { report = refusal (Length (length received)); out = out }
    unfolding read_by
    read_length h = simp (ne_eqb (length received) (items L) h)

    module _ (long : length received ≡ items L) where
      pub read-room : length out < block_bytes c.kind → read_by c received out ≡ record { report = refusal (Room (block_bytes c.kind)); out = out }
      unfolding read_by
      read-room h = simp (eq-eqb (length received) (items L) long, lt-ltb (length out) (block_bytes c.kind) h)

      module _ (room : block_bytes c.kind ≤ length out) where
        pub read-item : first_above 2 received < length received
            → read_by c received out ≡ record { report = refusal (Item (first_above 2 received)); out = out }
        unfolding read_by
        read-item h =
            simp (eq-eqb (length received) (items L) long, le-ltb (length out) (block_bytes c.kind) room, lt-ltb (first_above 2 received) (length received) h)

        -- the items are legal, and the decided bits come to the block or to refusal 7 or 8
        pub read-decided : length received ≤ first_above 2 received → read_by c received out ≡ decided_block c.kind c.rate c.taps (decided_bit L received) out
        unfolding read_by decided_block
        read-decided h =
            none-outcome {A = ℕ} (item_rows c received out) (recover_rows c.kind c.rate c.taps (decided_bit L received)) out (block_bytes c.kind) (block_made c.kind c.rate (decided_bit L received) out) (
              ap not (eq-eqb (length received) (items L) long),
              (le-ltb (length out) (block_bytes c.kind) room, (le-ltb (first_above 2 received) (length received) h, tt)),
            )

-- ---- from the decided bits: recovery into a buffer, and descrambling from there

module _ (kind rate taps : ℕ) (D : Defined kind rate) (e : ℕ → ℕ) (was out : List ℕ) where
  pub block_refused : (r : Refusal) → (recovered kind rate taps e was).report ≡ refusal r → decided_block kind rate taps e out ≡ record { report = refusal r; out = out }
  unfolding recovered decided_block
  block_refused r q =
      refused-alike (recover_rows kind rate taps e) was (block_bytes kind) (bytes_of (block_bytes kind) (data_bit kind rate e) ++ drop (block_bytes kind) was) r out (block_made kind rate e out) q

  data-binary : coded_bits kind rate ≤ first_undecided kind rate e → Binary (8 * block_bytes kind) (data_bit kind rate e)
  unfolding data_bit
  data-binary all j h = all-decided kind rate e all (coded_at kind rate j) (coded-lt kind rate D j (omega (arith, coded-count kind rate D)))

  -- the buffer's first bytes, scrambled at the start of the lent memory
  pub block-done : (n : ℕ) → (recovered kind rate taps e was).report ≡ done n
      → (n ≡ block_bytes kind) × ((recovered kind rate taps e was).out ≡ bytes_of (block_bytes kind) (data_bit kind rate e) ++ drop (block_bytes kind) was)
      × (scramble (bytes_of (block_bytes kind) (data_bit kind rate e)) ≡ bytes_of (block_bytes kind) (scrambled (data_bit kind rate e)))
      × (decided_block kind rate taps e out ≡ record { report = done (block_bytes kind); out = block_made kind rate e out })
  unfolding recovered decided_block
  block-done n q =
      let bytes = bytes_of (block_bytes kind) (data_bit kind rate e) ++ drop (block_bytes kind) was in
      let none = outcome-done {A = ℕ} (recover_rows kind rate taps e) was (block_bytes kind) n bytes q in
      let good = outcome-good {A = ℕ} (recover_rows kind rate taps e) was (block_bytes kind) bytes none in (
        sym (done-same (ap (λ (o : Outcome ℕ (List ℕ)). o.report) (sym good) ∙ q)),
        ap (λ (o : Outcome ℕ (List ℕ)). o.out) good,
        scramble-bytes (block_bytes kind) (data_bit kind rate e) (data-binary (ltb-false (first_undecided kind rate e) (coded_bits kind rate) none.0)),
        outcome-good {A = ℕ} (recover_rows kind rate taps e) out (block_bytes kind) (block_made kind rate e out) none,
      )
