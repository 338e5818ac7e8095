-- Laws of the votes by groups, slots and symbols, and what the counters decide. Assumes nothing.
use mathlib.Core.Path.{◌≡◌, refl, sym, ap, ap₂, ◌∙◌}
use mathlib.Core.Bool.{Bool, false, ◌&&◌}
use mathlib.Core.List.{List, ◌++◌, map}
use Prim.Native.Nat.{ℕ, ◌+◌, ◌-◌, ◌*◌, ◌%◌, ◌<◌, ◌≤◌}
use native.Mathlib.Nat.{zero-add}
use native.Mathlib.Omega.{arith}
use lib.Dec.{eqb}
use lib.ListN.{length, get_or, take, drop, length-replicate}
use lib.Seq.{get_or-take, get_or-drop}
use Rattle.std.proofs.lemmas.List.{get_or-replicate, get_or-map}
use Rattle.std.proofs.Math.ListN.{length-map}
use borrow.Author.Tests.{lt-ltb, le-ltb}
use Rattle.bits.specs.Lists.{written}
use Rattle.bits.proofs.ListLaws.{tabulate-of, tabulate-ext}
use Rattle.bits.proofs.SumLaws.{count_none}
use Rattle.votes.specs.Votes.{carries as carries_on, votes, majority, decided}
use Rattle.votes.specs.Loops.Counters.{middle, counted, Adds}
use Rattle.votes.proofs.VoteLaws.{votes-le, votes-append}
use Rattle.votes.proofs.CounterLaws.{adds-more, counted-long, counted-more, middle-counted, counter-decides}
use Rattle.payload_layout.specs.declared.Layout.{Layout}
use Rattle.payload_layout.specs.Layouts.{items, group_bits}
use Rattle.payload_layout.specs.Items.{padded, used, carries}
use Rattle.payload_layout.proofs.CountLaws.{copies-most}
use Rattle.payload_layout.proofs.ItemLaws.{unused-carries}
use Rattle.payload_copying.specs.declared.Slot.{Slot}
use Rattle.payload_copying.specs.Loops.Slots.{Slotted, Carries}
use Rattle.payload_copying.proofs.SymbolLaws.{slot-test}
use Rattle.payload_combining.specs.Loops.Groups.{slot_on, group_on, middles}

-- ---- the votes of a group: a run of data, and a run of pads

-- items that carry alike
adds-ext : (W n m : ℕ) (onto other : ℕ → ℕ → Bool) (items before after : List ℕ) → ((j q : ℕ) → j < m → onto j q ≡ other j q)
    → Adds W n m onto items before after → Adds W n m other items before after
adds-ext W n m onto other items before after alike h on start same e = h on start (λ j q l. same j q l ∙ sym (alike j q l)) e

module _ (L : Layout) (k g from : ℕ) (f : from ≡ g * group_bits L) where
  data-on : (x b : ℕ) → from + x < L.coded → carries_on (λ j. from + j) x b ≡ group_on L k g x b
  unfolding carries_on padded group_on
  data-on x b h = rw (← f, lt-ltb (from + x) L.coded h)

  pub data-adds : (n : ℕ) (group before after : List ℕ) → from + n ≤ L.coded
      → Adds L.coded 0 n (carries_on (λ j. from + j)) group before after → Adds L.coded 0 n (group_on L k g) group before after
  data-adds n group before after h = adds-ext L.coded 0 n (carries_on (λ j. from + j)) (group_on L k g) group before after (λ x b l. data-on x b (omega arith))

  module _ (rest at : ℕ) (r : from + rest ≡ L.coded) (a : at ≡ k * L.pad) where
    pad-on : (x b : ℕ) → carries_on (λ j. at + j) x b ≡ group_on L k g (rest + x) b
    unfolding carries_on padded group_on
    pad-on x b =
        let on : from + (rest + x) - L.coded ≡ x = omega arith in
        rw (← f, le-ltb (from + (rest + x)) L.coded (omega arith), on, a)

    pub pad-adds : (pad : ℕ) (group before between after : List ℕ)
        → Adds L.coded 0 rest (carries_on (λ j. from + j)) group before between → Adds L.coded rest pad (carries_on (λ j. at + j)) group between after
        → Adds L.coded 0 (rest + pad) (group_on L k g) group before after
    pad-adds pad group before between after first second =
        adds-more L.coded 0 (group_on L k g) group before rest pad (carries_on (λ j. at + j)) between after
        (data-adds rest group before between (omega arith) first) (rw (zero-add rest) second) (λ j q l. pad-on j q)

-- ---- the votes of a slot

slot_is : (L : Layout) (s : Slot) → Carries L s → (i b : ℕ) → i < group_bits L → slot_on L s.copy s.group i b ≡ carries L (s.start + i) b
unfolding slot_on carries_on
slot_is L s c i b h = slot-test L s c i b h

-- items on unused carriers have no vote
module _ (L : Layout) (n m : ℕ) (free : (i : ℕ) → n ≤ i → i < n + m → used L i ≡ false) where
  free-votes : (r : List ℕ) (b v : ℕ) → votes m (λ j c. carries L (n + j) c) r b v ≡ 0
  unfolding votes
  free-votes r b v =
      count_none m _ (λ j h. ap (λ (t : Bool). t && eqb (get_or r j 0) v) (unused-carries L (n + j) b (free (n + j) (omega arith) (omega arith))))

  free-counted : (r start now : List ℕ) → now ≡ counted L.coded n (carries L) r start → now ≡ counted L.coded (n + m) (carries L) r start
  unfolding counted
  free-counted r start now e =
      e
      ∙ tabulate-ext L.coded _ _
      (λ b l. ap₂ (λ (ones zeros : ℕ). (get_or start b 0 + ones + 255 * zeros) % 256) (side b 1) (side b 0))
    where
      side : (b v : ℕ) → votes n (carries L) r b v ≡ votes (n + m) (carries L) r b v
      side b v =
          omega (arith, votes-append n m (carries L) (λ j c. carries L (n + j) c) r b v (λ j k. refl), free-votes (drop n r) b v)

module _ (L : Layout) (z : Slotted L) (r : List ℕ) where
  -- a bit has twelve votes at most
  all-few : (b v : ℕ) → b < L.coded → votes (items L) (carries L) r b v ≤ 12
  all-few b v h = omega (arith, votes-le (items L) (carries L) r b v, copies-most L z.laid.sound b h z.laid.small)

  middle-at : (b : ℕ) → b < L.coded → get_or (middles L) b 0 ≡ middle
  middle-at b h = get_or-replicate L.coded b middle 0 h

  -- before any vote
  pub none-counted : (now : List ℕ) → now ≡ middles L → now ≡ counted L.coded 0 (carries L) r (middles L)
  none-counted now e =
      e ∙ middle-counted L.coded (carries L) r (middles L) (length-replicate L.coded middle) middle-at

  -- what a counter tells at the end
  votes-decide : (now : List ℕ) → now ≡ counted L.coded (items L) (carries L) r (middles L) → (b : ℕ) → b < L.coded
      → majority middle (get_or now b 0) ≡ decided (items L) (carries L) r b
  votes-decide now h b l =
      counter-decides L.coded (items L) (carries L) r (middles L) now h b l (middle-at b l) (omega (arith, all-few b 0 l)) (omega (arith, all-few b 1 l))

  module _ (n : ℕ) (now : List ℕ) (h : now ≡ counted L.coded n (carries L) r (middles L)) where
    -- a slot more: its group's items, and those that have no vote
    pub slot-more : (s : Slot) → Carries L s → s.start ≡ n → (end : ℕ) → end ≡ s.start + group_bits L → (later : List ℕ)
        → later ≡ counted L.coded (group_bits L) (slot_on L s.copy s.group) (take (end - s.start) (drop s.start r)) now
        → later ≡ counted L.coded s.end (carries L) r (middles L)
    slot-more s c at end e later p =
        free-counted L (n + group_bits L) (s.end - (n + group_bits L)) (λ i l k. c.unused i (omega (arith, at)) (omega (arith, at, c.room))) r (middles L) later first
        ∙ ap (λ (m : ℕ). counted L.coded m (carries L) r (middles L))
        (let all : n + group_bits L + (s.end - (n + group_bits L)) ≡ s.end = omega (arith, at, c.room) in all)
      where
        first : later ≡ counted L.coded (n + group_bits L) (carries L) r (middles L)
        first =
            counted-more L.coded n (group_bits L) (carries L) (slot_on L s.copy s.group) r (take (end - s.start) (drop s.start r)) (middles L) now later h p
            (λ i l b q. slot_is L s c i b l ∙ ap (λ (x : ℕ). carries L (x + i) b) at)
            (λ i l. get_or-take (end - s.start) (drop s.start r) i 0 (omega arith) ∙ get_or-drop s.start r i 0 ∙ ap (λ (x : ℕ). get_or r (x + i) 0) at)

  -- the counters, settled
  pub settled-all : (out now : List ℕ) → now ≡ counted L.coded (items L) (carries L) r (middles L)
      → map (majority middle) now ++ drop L.coded out ≡ written L.coded (decided (items L) (carries L) r) out
  unfolding written
  settled-all out now h =
      ap (λ (xs : List ℕ). xs ++ drop L.coded out)
      (tabulate-of L.coded _ 0 (map (majority middle) now) (length-map now (majority middle) ∙ long)
      (λ b l. get_or-map (majority middle) now b 0 0 (omega (arith, long)) ∙ votes-decide now h b l))
    where
      long : length now ≡ L.coded
      long = counted-long L.coded (items L) (carries L) r (middles L) now h
