-- What received items of one copy decide: they are two runs, so a bit has one copy, or a second one in the pad. Assumes nothing.
use mathlib.Core.Path.{◌≡◌, sym, ap, ap₂, ◌∙◌}
use mathlib.Core.Bool.{Bool, ◌&&◌}
use mathlib.Core.List.{List}
use Prim.Native.Nat.{ℕ, ◌+◌, ◌-◌, ◌≤◌, ◌<◌}
use native.Mathlib.Omega.{arith}
use lib.Dec.{eqb, eqb→eq}
use lib.ListN.{get_or, length, take, drop, length-drop}
use lib.Seq.{length-take-le, get_or-take}
use borrow.Author.Rules.{part_to_end}
use borrow.Author.Tests.{lt-ltb, le-ltb, ne_eqb}
use Rattle.bits.specs.Lists.{written}
use Rattle.bits.proofs.ListLaws.{written-again}
use Rattle.bits.proofs.RangeLaws.{agree}
use Rattle.bits.proofs.SumLaws.{count-ext, count-and-none, count-one}
use Rattle.votes.specs.Votes.{votes, majority, decided}
use Rattle.votes.proofs.VoteLaws.{votes-append}
use Rattle.payload_layout.specs.declared.Layout.{Layout}
use Rattle.payload_layout.specs.Layouts.{items}
use Rattle.payload_layout.specs.Loops.Bounds.{Laid}
use Rattle.payload_layout.specs.Items.{carries}
use Rattle.payload_layout.proofs.CarriedLaws.{one-full, one-pad}
use Rattle.payload_layout.proofs.ItemLaws.{one-carries}
use Rattle.payload_combining.specs.Loops.Copies.{vote, of_one, of_two}

-- an only copy that is heard, and one that is lost
pub one-heard : (a : ℕ) → a < 2 → a ≡ of_one a
unfolding of_one majority
one-heard = agree 2 (λ a. a) of_one tt

pub one-lost : (a : ℕ) → 2 ≤ a → 2 ≡ of_one a
unfolding of_one majority
one-lost a h = rw (ne_eqb a 0 (λ e. absurd (omega arith)), ne_eqb a 1 (λ e. absurd (omega arith)))

-- a run that carries the bits in order has one copy of each bit that it reaches
run-vote : (n b v : ℕ) (run : List ℕ) → b < n → votes n eqb run b v ≡ vote (get_or run b 0) v
unfolding votes
run-vote n b v run h = count-one n b (λ k. eqb (get_or run k 0) v) h

run_none : (n b v : ℕ) (run : List ℕ) → n ≤ b → votes n eqb run b v ≡ 0
unfolding votes
run_none n b v run h = count-and-none n (λ k. eqb k b) _ (λ k l t. absurd (omega (arith, eqb→eq k b t)))

-- the items before the pad, and those of the pad
module _ (L : Layout) (laid : Laid L) (one : L.copies ≡ 1) where
  pub full : items L ≡ L.coded + L.pad
  full = one-full L laid.sound one

  pub pad-within : L.pad ≤ L.coded
  pad-within = one-pad L laid one

  carries-data : (j : ℕ) → j < L.coded → (b : ℕ) → eqb j b ≡ carries L j b
  carries-data j h b = sym (one-carries L laid.sound one j (omega (arith, full)) b ∙ rw (lt-ltb j L.coded h))

  carries-pad : (j : ℕ) → j < L.pad → (b : ℕ) → eqb j b ≡ carries L (L.coded + j) b
  carries-pad j h b =
      let at : L.coded + j - L.coded ≡ j = omega arith in
      sym (one-carries L laid.sound one (L.coded + j) (omega (arith, full)) b ∙ rw (le-ltb (L.coded + j) L.coded (omega arith), at))

module _ (L : Layout) (laid : Laid L) (one : L.copies ≡ 1) (received : List ℕ) (b : ℕ) (b_lt : b < L.coded) where
  -- the votes for v: that of the item in place b, and those in the pad
  bit-votes : (v : ℕ)
      → votes (items L) (carries L) received b v ≡ vote (get_or received b 0) v + votes L.pad eqb (drop L.coded received) b v
  unfolding votes
  bit-votes v =
      ap (λ (n : ℕ). votes n (carries L) received b v) (full L laid one)
      ∙ votes-append L.coded L.pad (carries L) eqb received b v (λ j h. carries-pad L laid one j h b)
      ∙ ap (λ (n : ℕ). n + votes L.pad eqb (drop L.coded received) b v)
      (count-ext L.coded _ _ (λ j h. ap (λ (t : Bool). t && eqb (get_or received j 0) v) (sym (carries-data L laid one j h b)))
      ∙ run-vote L.coded b v received b_lt)

  decided-once : L.pad ≤ b → of_one (get_or received b 0) ≡ decided (items L) (carries L) received b
  unfolding of_one decided
  decided-once h = sym (ap₂ majority (side 0) (side 1))
    where
      side : (v : ℕ) → votes (items L) (carries L) received b v ≡ vote (get_or received b 0) v
      side v = omega (arith, bit-votes v, run_none L.pad b v (drop L.coded received) h)

  decided-twice : b < L.pad
      → of_two (get_or received b 0) (get_or (drop L.coded received) b 0) ≡ decided (items L) (carries L) received b
  unfolding of_two decided
  decided-twice h = sym (ap₂ majority (side 0) (side 1))
    where
      side : (v : ℕ)
          → votes (items L) (carries L) received b v ≡ vote (get_or received b 0) v + vote (get_or (drop L.coded received) b 0) v
      side v = bit-votes v ∙ ap (◌+◌ (vote (get_or received b 0) v)) (run-vote L.pad b v (drop L.coded received) h)

-- both loops together
module _ (L : Layout) (laid : Laid L) (one : L.copies ≡ 1) (received : List ℕ) (long : length received ≡ items L) where
  pub data-length : length (take L.coded received) ≡ L.coded
  data-length = length-take-le L.coded received (omega (arith, full L laid one))

  -- the items of the pad
  abbrev pub pad_part : List ℕ
  pad_part = take (length received - L.coded) (drop L.coded received)

  pub pad-length : length pad_part ≡ L.pad
  pad-length = rw (part_to_end received L.coded, length-drop) (omega (arith, full L laid one))

  pub decided-written : (out once now : List ℕ) → L.coded ≤ length out
      → once ≡ written (length (take L.coded received)) (λ b. of_one (get_or (take L.coded received) b 0)) out
      → now ≡ written (length pad_part) (λ b. of_two (get_or received b 0) (get_or pad_part b 0)) once
      → now ≡ written L.coded (decided (items L) (carries L) received) out
  decided-written out once now room e d =
      d ∙ ap (written (length pad_part) twos) (e ∙ ap (λ (n : ℕ). written n ones out) data-length)
      ∙ ap (λ (n : ℕ). written n twos (written L.coded ones out)) pad-length
      ∙ written-again L.pad L.coded ones twos (decided (items L) (carries L) received) 0 out (pad-within L laid one) room
      (λ b h.
      ap (λ (l : List ℕ). of_two (get_or received b 0) (get_or l b 0)) (part_to_end received L.coded)
      ∙ decided-twice L laid one received b (omega (arith, pad-within L laid one)) h)
      (λ b h l. ap of_one (get_or-take L.coded received b 0 l) ∙ decided-once L laid one received b l h)
    where
      ones : ℕ → ℕ
      ones b = of_one (get_or (take L.coded received) b 0)

      twos : ℕ → ℕ
      twos b = of_two (get_or received b 0) (get_or pad_part b 0)
