-- The items of one copy as two runs: the coded bits in order, and the pad, which has them from 0 on. Assumes nothing.
use mathlib.Core.Path.{◌≡◌, sym, ap, ◌∙◌}
use mathlib.Core.List.{List, ◌++◌}
use Prim.Native.Nat.{ℕ, ◌+◌, ◌-◌, ◌<◌}
use native.Mathlib.Omega.{arith}
use lib.ListN.{get_or, length, take, drop}
use lib.Seq.{length-take-le, get_or-take}
use borrow.Author.Tests.{lt-ltb, le-ltb}
use Rattle.bits.specs.Lists.{written}
use Rattle.bits.proofs.ListLaws.{tabulate-of, written-list, written-part}
use Rattle.payload_layout.specs.declared.Layout.{Layout}
use Rattle.payload_layout.specs.Layouts.{items}
use Rattle.payload_layout.specs.Loops.Bounds.{Laid}
use Rattle.payload_layout.specs.Items.{sent_on}
use Rattle.payload_layout.proofs.CarriedLaws.{one-full, one-pad}
use Rattle.payload_layout.proofs.ItemLaws.{one-sent}

module _ (L : Layout) (laid : Laid L) (one : L.copies ≡ 1) (coded : List ℕ) (long : length coded ≡ L.coded) where
  pub full : items L ≡ L.coded + L.pad
  full = one-full L laid.sound one

  pub pad-length : length (take L.pad coded) ≡ L.pad
  pad-length = length-take-le L.pad coded (omega (arith, one-pad L laid one))

  data-sent : (n : ℕ) → n < L.coded → get_or coded n 0 ≡ sent_on L (λ b. get_or coded b 0) n
  data-sent n h = sym (one-sent L laid.sound one n (omega (arith, full)) (λ b. get_or coded b 0) ∙ rw (lt-ltb n L.coded h))

  pad-sent : (j : ℕ) → j < L.pad → get_or coded j 0 ≡ sent_on L (λ b. get_or coded b 0) (L.coded + j)
  pad-sent j h =
      let at : L.coded + j - L.coded ≡ j = omega arith in
      sym (one-sent L laid.sound one (L.coded + j) (omega (arith, full)) (λ b. get_or coded b 0) ∙ rw (le-ltb (L.coded + j) L.coded (omega arith), at))

  -- the coded bits at the start of a buffer, and then the first of them once more
  pub laid-once : (out then part : List ℕ) → then ≡ coded ++ drop (length coded) out
      → part ≡ take L.pad coded ++ drop (length (take L.pad coded)) (take (length then - L.coded) (drop L.coded then))
      → take L.coded then ++ (part ++ drop (length then - L.coded) (drop L.coded then)) ≡ written (items L) (sent_on L (λ b. get_or coded b 0)) out
  laid-once out then part e p =
      written-part L.coded L.pad (sent_on L (λ b. get_or coded b 0)) (λ j. get_or coded j 0) out then part
      (e ∙ written-list L.coded _ coded out (tabulate-of L.coded _ 0 coded long data-sent))
      pad-sent
      (p ∙ written-list L.pad _ (take L.pad coded) _ (tabulate-of L.pad _ 0 (take L.pad coded) pad-length (λ j h. get_or-take L.pad coded j 0 h)))
      ∙ ap (λ (n : ℕ). written n (sent_on L (λ b. get_or coded b 0)) out) (sym full)
