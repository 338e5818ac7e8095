-- Clean return and the law of the majority over the entries' outcome definitions. Assumes nothing.
use mathlib.Core.Path.{◌≡◌, sym, ap, ◌∙◌}
use mathlib.Core.Bool.{cond}
use mathlib.Core.List.{List, ◌++◌}
use Prim.Native.Nat.{ℕ, ◌+◌, ◌*◌, ◌≤◌, ◌<◌}
use native.Mathlib.Omega.{arith}
use lib.Dec.{T, ltb}
use lib.ListN.{length, get_or, take, drop}
use borrow.Author.Tests.{le-ltb}
use Rattle.bits.specs.Bits.{bit_of, bytes_of}
use Rattle.bits.specs.Lists.{tabulate, written}
use Rattle.bits.proofs.NumberLaws.{lt-cases}
use Rattle.bits.proofs.BitLaws.{Binary, same_bits, bytes_bits}
use Rattle.bits.proofs.ListLaws.{length-tabulate, get_or-tabulate, lowest-none, take-written}
use Rattle.refusal.specs.declared.Refusal.TheVariants.{Room, Parity}
use Rattle.refusal.specs.Report.{done, refused, refusal}
use Rattle.refusal.specs.Outcome.{Outcome}
use Rattle.refusal.proofs.OutcomeLaws.{outcome-good}
use Rattle.card.specs.Card.{card_of}
use Rattle.card.specs.Modes.{block_bytes}
use Rattle.card.specs.Gate.{Served}
use Rattle.card.proofs.GateLaws.{gate-served}
use Rattle.scrambler.specs.Scrambler.{scrambled}
use Rattle.scrambler.proofs.ScramblerLaws.{scrambled-at, scrambled-twice, block-binary}
use Rattle.interleaver_shape.specs.Shapes.{coded_bits}
use Rattle.fec.specs.Coding.{data_bits, coded_bit}
use Rattle.fec.proofs.CodingLaws.{coded-binary}
use Rattle.recovery.specs.Recovery.{data_bit, first_undecided, disagreeing, recover_rows}
use Rattle.recovery.proofs.RecoveryLaws.{clean-data, clean-rows, refused-parity}
use Rattle.votes.specs.Votes.{copies, wrong_copies, lost_copies}
use Rattle.votes.specs.Damage.{Damage}
use Rattle.votes.proofs.VoteLaws.{own-items}
use Rattle.votes.proofs.DamageLaws.{none_above}
use Rattle.payload_layout.specs.Layouts.{items}
use Rattle.payload_layout.specs.Loops.Bounds.{Laid}
use Rattle.payload_layout.specs.Items.{carries, sent_on}
use Rattle.payload_layout.proofs.CountLaws.{copies-are, copies-most}
use Rattle.payload_layout.proofs.ItemLaws.{sent-binary, decided-clean, decided-damaged}
use Rattle.payload.specs.Entries.{layout_of_card, sent_item, send, decided_bit, block_made, decided_block, read}
use Rattle.payload.specs.Words.{GoodCard, Block, made}
use Rattle.payload.proofs.ModeLaws.{layout-bits, copies-as-said, layout-served}
use Rattle.payload.proofs.EntryLaws.{send-passed, send-done, read-passed, read-room, read-decided, block_refused}

-- the coded bits of a block under a card
abbrev pub block_bits : List ℕ → List ℕ → ℕ → ℕ
block_bits card block = coded_bit (card_of card).kind (card_of card).rate (card_of card).taps (scrambled (bit_of block))

module _ (card : List ℕ) (good : GoodCard card) where
  served : Served 1 4 (card_of card)
  served = gate-served 1 4 card (card_of card) good

  laid : Laid (layout_of_card card)
  laid = layout-served (card_of card) served

  -- each coded bit has as many copies as the card says, and one more where a pad repeats it
  pub copies_of : (b : ℕ) → b < coded_bits (card_of card).kind (card_of card).rate
      → copies (items (layout_of_card card)) (carries (layout_of_card card)) b ≡ (card_of card).copies + cond (ltb b ((card_of card).copies * (layout_of_card card).pad)) 1 0
  copies_of b h =
      copies-are (layout_of_card card) laid.sound b (rw (layout-bits (card_of card)) h)
      ∙ ap (λ (c : ℕ). c + cond (ltb b (c * (layout_of_card card).pad)) 1 0) (copies-as-said (card_of card))

  pub copies-at-least : (b : ℕ) → b < coded_bits (card_of card).kind (card_of card).rate → (card_of card).copies ≤ copies (items (layout_of_card card)) (carries (layout_of_card card)) b
  copies-at-least b h = omega (arith, copies_of b h)

  pub copies-at-most : (b : ℕ) → b < coded_bits (card_of card).kind (card_of card).rate → copies (items (layout_of_card card)) (carries (layout_of_card card)) b ≤ 12
  copies-at-most b h = copies-most (layout_of_card card) laid.sound b (rw (layout-bits (card_of card)) h) laid.small

  -- reading legal items of the right number under a good card comes to the decided bits
  pub read-good : (received back : List ℕ) → Damage (items (layout_of_card card)) received → block_bytes (card_of card).kind ≤ length back
      → read card received back ≡ decided_block (card_of card).kind (card_of card).rate (card_of card).taps (decided_bit (layout_of_card card) received) back
  read-good received back damage room =
      read-passed card received back (card_of card) good
      ∙ read-decided (card_of card) received back damage.long room
      (omega (arith, none_above (items (layout_of_card card)) received damage))

  -- and into a shorter room it is refused
  read_short : (received back : List ℕ) → Damage (items (layout_of_card card)) received → length back < block_bytes (card_of card).kind
      → read card received back ≡ record { report = refusal (Room (block_bytes (card_of card).kind)); out = back }
  read_short received back damage short =
      read-passed card received back (card_of card) good
      ∙ read-room (card_of card) received back damage.long short

  -- Items that carry no bit have no vote: receptions that agree on the others come to the same.
  pub alike : (left right back : List ℕ) → Damage (items (layout_of_card card)) left → Damage (items (layout_of_card card)) right
      → ((n b : ℕ) → n < items (layout_of_card card) → T (carries (layout_of_card card) n b) → get_or left n 0 ≡ get_or right n 0)
      → read card left back ≡ read card right back
  unfolding decided_bit
  alike left right back dl dr same =
      lt-cases (length back) (block_bytes (card_of card).kind)
      (λ short. read_short left back dl short ∙ sym (read_short right back dr short))
      (λ room. read-good left back dl room
      ∙ ap (λ (e : ℕ → ℕ). decided_block (card_of card).kind (card_of card).rate (card_of card).taps e back) (λ i b. each b i) ∙ sym (read-good right back dr room))
    where
      each : (b : ℕ) → decided_bit (layout_of_card card) left b ≡ decided_bit (layout_of_card card) right b
      each b = own-items (items (layout_of_card card)) (carries (layout_of_card card)) left right b (λ n h t. same n b h t)

  -- Refusal 8: where each coded bit is decided and parity disagrees, the count is the number of kept parity bits that disagree.
  pub parity-counted : (received back : List ℕ) → Damage (items (layout_of_card card)) received → block_bytes (card_of card).kind ≤ length back
      → ((b : ℕ) → b < coded_bits (card_of card).kind (card_of card).rate → decided_bit (layout_of_card card) received b ≤ 1)
      → 0 < disagreeing (card_of card).kind (card_of card).rate (card_of card).taps (decided_bit (layout_of_card card) received)
      → read card received back
      ≡ record { report = refused 8 (disagreeing (card_of card).kind (card_of card).rate (card_of card).taps (decided_bit (layout_of_card card) received)) 0; out = back }
  unfolding first_undecided
  parity-counted received back damage room each some =
      let kind = (card_of card).kind in
      let rate = (card_of card).rate in
      let taps = (card_of card).taps in
      let e = decided_bit (layout_of_card card) received in
      let all : first_undecided kind rate e ≡ coded_bits kind rate = lowest-none (coded_bits kind rate) (λ i. ltb 1 (e i)) (λ i h. le-ltb 1 (e i) (each i h)) in
      read-good received back damage room
      ∙ block_refused kind rate taps served.kinds e back back (Parity (disagreeing kind rate taps e))
      (ap (λ (o : Outcome ℕ (List ℕ)). o.report) (refused-parity kind rate taps e back (omega (arith, all)) some))

  module _ (block : List ℕ) (is : Block (card_of card).kind block) where
    -- sending a block under a good card
    pub send-good : (out : List ℕ) → items (layout_of_card card) ≤ length out
        → send card block out
        ≡ record {
          report = done (items (layout_of_card card));
          out = written (items (layout_of_card card)) (sent_item (layout_of_card card) (card_of card).kind (card_of card).rate (card_of card).taps block) out;
        }
    send-good out room =
        send-passed card block out (card_of card) good
        ∙ send-done (card_of card) block out is.long room

    -- what was made, whatever lies beyond
    pub made-is : (out : List ℕ) → items (layout_of_card card) ≤ length out
        → made card block out ≡ tabulate (items (layout_of_card card)) (sent_on (layout_of_card card) (block_bits card block))
    unfolding sent_item
    made-is out room =
        ap (λ (o : Outcome ℕ (List ℕ)). take (items (layout_of_card card)) o.out) (send-good out room)
        ∙ take-written (items (layout_of_card card)) (sent_on (layout_of_card card) (block_bits card block)) out

    scrambled-binary : Binary (data_bits (card_of card).kind) (scrambled (bit_of block))
    scrambled-binary = block-binary block (data_bits (card_of card).kind)

    bits-binary : (b : ℕ) → block_bits card block b < 2
    bits-binary = coded-binary (card_of card).kind (card_of card).rate served.kinds (card_of card).taps (scrambled (bit_of block)) scrambled-binary

    items-binary : (n : ℕ) → sent_on (layout_of_card card) (block_bits card block) n < 2
    items-binary = sent-binary (layout_of_card card) (block_bits card block) bits-binary

    -- data bits that are the scrambled block's make the block
    descrambled : (d : ℕ → ℕ) → ((k : ℕ) → k < data_bits (card_of card).kind → d k ≡ scrambled (bit_of block) k)
        → bytes_of (block_bytes (card_of card).kind) (scrambled d) ≡ block
    descrambled d same =
        same_bits (block_bytes (card_of card).kind) (scrambled d) (bit_of block) (λ i h. scrambled-at d (scrambled (bit_of block)) i (same i h) ∙ scrambled-twice (bit_of block) i)
        ∙ ap (λ (n : ℕ). bytes_of n (bit_of block)) (sym is.long) ∙ bytes_bits block is.bytes

    -- a reception whose bits are all decided as sent
    block_back : (received back : List ℕ) → Damage (items (layout_of_card card)) received → block_bytes (card_of card).kind ≤ length back
        → ((b : ℕ) → b < coded_bits (card_of card).kind (card_of card).rate → decided_bit (layout_of_card card) received b ≡ block_bits card block b)
        → read card received back ≡ record { report = done (block_bytes (card_of card).kind); out = block ++ drop (block_bytes (card_of card).kind) back }
    unfolding decided_block block_made
    block_back received back damage room same =
        let kind = (card_of card).kind in
        let rate = (card_of card).rate in
        let e = decided_bit (layout_of_card card) received in
        read-good received back damage room
        ∙ outcome-good {A = ℕ} (recover_rows kind rate (card_of card).taps e) back (block_bytes kind) (block_made kind rate e back)
        (clean-rows kind rate served.kinds (card_of card).taps (scrambled (bit_of block)) scrambled-binary e same)
        ∙ ap (λ (l : List ℕ). record { report = done (block_bytes kind); out = l ++ drop (block_bytes kind) back })
        (descrambled (data_bit kind rate e) (clean-data kind rate served.kinds (card_of card).taps (scrambled (bit_of block)) scrambled-binary e same))

    -- Clean return: what was sent, read with the same card, answers 0 and gives the block.
    pub clean : (out back : List ℕ) → items (layout_of_card card) ≤ length out → block_bytes (card_of card).kind ≤ length back
        → read card (made card block out) back ≡ record { report = done (block_bytes (card_of card).kind); out = block ++ drop (block_bytes (card_of card).kind) back }
    unfolding decided_bit
    clean out back room space = rw (made-is out room) (block_back sent back damage space as-sent)
      where
        sent : List ℕ
        sent = tabulate (items (layout_of_card card)) (sent_on (layout_of_card card) (block_bits card block))

        at_item : (n : ℕ) → n < items (layout_of_card card) → get_or sent n 0 ≡ sent_on (layout_of_card card) (block_bits card block) n
        at_item n h = get_or-tabulate (items (layout_of_card card)) (sent_on (layout_of_card card) (block_bits card block)) n 0 h

        damage : Damage (items (layout_of_card card)) sent
        damage = record { long = length-tabulate (items (layout_of_card card)) _; legal = λ n h. omega (arith, at_item n h, items-binary n) }

        as-sent : (b : ℕ) → b < coded_bits (card_of card).kind (card_of card).rate → decided_bit (layout_of_card card) sent b ≡ block_bits card block b
        as-sent b h =
            decided-clean (layout_of_card card) (block_bits card block) sent b (bits-binary b) laid
            (rw (layout-bits (card_of card)) h) at_item

    -- legal items of which each coded bit has twice its wrong copies and its lost copies below a bound give the block back exact
    abbrev Back : (ℕ → ℕ) → Type 0
    Back bound =
        (out received back : List ℕ) → items (layout_of_card card) ≤ length out → Damage (items (layout_of_card card)) received → block_bytes (card_of card).kind ≤ length back
        → ((b : ℕ) → b < coded_bits (card_of card).kind (card_of card).rate
        → 2 * wrong_copies (items (layout_of_card card)) (carries (layout_of_card card)) (made card block out) received b + lost_copies (items (layout_of_card card)) (carries (layout_of_card card)) received b
        < bound b)
        → read card received back ≡ record { report = done (block_bytes (card_of card).kind); out = block ++ drop (block_bytes (card_of card).kind) back }

    -- The law of the majority: so they do below the bit's copies.
    pub survives : Back (copies (items (layout_of_card card)) (carries (layout_of_card card)))
    unfolding decided_bit
    survives out received back room damage space few =
        block_back received back damage space (λ b h.
        decided-damaged (layout_of_card card) (block_bits card block) received b (bits-binary b) damage.legal (rw (made-is out room) at (few b h)))

    -- So they do below the card's copy count.
    pub survives-copies : Back (λ b. (card_of card).copies)
    survives-copies out received back room damage space few =
        survives out received back room damage space (λ b h. omega (arith, few b h, copies-at-least b h))

    -- what was made is so many bits
    pub made-length : (out : List ℕ) → items (layout_of_card card) ≤ length out → length (made card block out) ≡ items (layout_of_card card)
    made-length out room = ap length (made-is out room) ∙ length-tabulate (items (layout_of_card card)) (sent_on (layout_of_card card) (block_bits card block))

    pub made-binary : (out : List ℕ) → items (layout_of_card card) ≤ length out → (n : ℕ) → n < items (layout_of_card card) → get_or (made card block out) n 0 < 2
    made-binary out room n h =
        rw (made-is out room, get_or-tabulate (items (layout_of_card card)) (sent_on (layout_of_card card) (block_bits card block)) n 0 h) (items-binary n)
