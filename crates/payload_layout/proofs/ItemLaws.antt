-- Laws by which callers know the items: what an item sends, the copies of each coded bit, and what received items decide. Assumes nothing.
use mathlib.Core.Path.{◌≡◌, ap, ap₂, ◌∙◌}
use mathlib.Core.Bool.{Bool, true, false, cond, ◌&&◌}
use mathlib.Core.List.{List}
use Prim.Native.Nat.{ℕ, ◌+◌, ◌-◌, ◌*◌, ◌<◌}
use native.Mathlib.Omega.{arith}
use lib.Dec.{T, eqb, ltb, eqb→eq}
use lib.ListN.{get_or}
use Rattle.bits.specs.Lists.{tabulate}
use Rattle.bits.proofs.BoolLaws.{test-cases}
use Rattle.bits.proofs.ListLaws.{get_or-tabulate}
use Rattle.votes.specs.Votes.{copies, wrong_copies, lost_copies, decided}
use Rattle.votes.proofs.VoteLaws.{decided-as-sent, undamaged}
use Rattle.payload_layout.specs.declared.Layout.{Layout}
use Rattle.payload_layout.specs.Layouts.{items}
use Rattle.payload_layout.specs.Loops.Bounds.{Sound, Laid}
use Rattle.payload_layout.specs.Items.{used, carried, carries, sent_on}
use Rattle.payload_layout.proofs.CountLaws.{copies-least}
use Rattle.payload_layout.proofs.CarriedLaws.{all-used, one-carried, carried-below}

-- ---- what an item sends

-- an item that carries a bit sends it
pub sent-carries : (L : Layout) (d : ℕ → ℕ) (n b : ℕ) → T (carries L n b) → sent_on L d n ≡ d b
unfolding sent_on carries
sent-carries L d n b = go (used L n)
  where
    go : (u : Bool) → T (u && eqb (carried L n) b) → cond u (d (carried L n)) 0 ≡ d b
    go true t = ap d (eqb→eq (carried L n) b t)
    go false t = absurd t

-- one on an unused carrier carries no bit and sends 0
pub unused-carries : (L : Layout) (n b : ℕ) → used L n ≡ false → carries L n b ≡ false
unfolding carries
unused-carries L n b e = rw e

pub unused-sent : (L : Layout) (d : ℕ → ℕ) (n : ℕ) → used L n ≡ false → sent_on L d n ≡ 0
unfolding sent_on
unused-sent L d n e = rw e

-- of bits every item sends 0 or 1
pub sent-binary : (L : Layout) (d : ℕ → ℕ) → ((b : ℕ) → d b < 2) → (n : ℕ) → sent_on L d n < 2
unfolding sent_on
sent-binary L d bits n = test-cases (used L n) (λ e. rw e (bits (carried L n))) (λ e. rw e (omega arith))

-- items ask only for the coded bits
pub sent-ext : (L : Layout) → Laid L → (d e : ℕ → ℕ) → ((b : ℕ) → b < L.coded → d b ≡ e b) → (n : ℕ) → n < items L → sent_on L d n ≡ sent_on L e n
unfolding sent_on
sent-ext L laid d e same n h =
    test-cases (used L n) (λ u. rw u (same (carried L n) (carried-below L laid n h u))) (λ u. rw u)

-- ---- one copy: item n carries bit n, and from the pad on bit n - coded

module _ (L : Layout) (s : Sound L) (one : L.copies ≡ 1) (n : ℕ) (h : n < items L) where
  pub one-carries : (b : ℕ) → carries L n b ≡ eqb (cond (ltb n L.coded) n (n - L.coded)) b
  unfolding carries
  one-carries b = ap₂ (λ (u : Bool) (a : ℕ). u && eqb a b) (all-used L s one n h) (one-carried L s one n h)

  pub one-sent : (d : ℕ → ℕ) → sent_on L d n ≡ d (cond (ltb n L.coded) n (n - L.coded))
  unfolding sent_on
  one-sent d = ap₂ (λ (u : Bool) (a : ℕ). cond u (d a) 0) (all-used L s one n h) (one-carried L s one n h)

-- ---- the copies of each coded bit

pub every-bit-copied : (L : Layout) → Laid L → (b : ℕ) → b < L.coded → 0 < copies (items L) (carries L) b
every-bit-copied L laid b h = omega (arith, copies-least L laid.sound b h, laid.sound.copies-pos)

-- ---- the bits d go out, and bit b, which is 0 or 1, comes back

module _ (L : Layout) (d : ℕ → ℕ) (received : List ℕ) (b : ℕ) (bit : d b < 2) where
  -- if the items are received as they were sent
  pub decided-clean : Laid L → b < L.coded → ((n : ℕ) → n < items L → get_or received n 0 ≡ sent_on L d n) → decided (items L) (carries L) received b ≡ d b
  decided-clean laid h same =
      undamaged (items L) (carries L) received b (d b) bit (λ n l t. same n l ∙ sent-carries L d n b t) (every-bit-copied L laid b h)

  -- and if they are legal, with twice the bit's wrong copies and its lost copies below its copies
  pub decided-damaged : ((n : ℕ) → n < items L → get_or received n 0 < 3)
      → 2 * wrong_copies (items L) (carries L) (tabulate (items L) (sent_on L d)) received b + lost_copies (items L) (carries L) received b
      < copies (items L) (carries L) b
      → decided (items L) (carries L) received b ≡ d b
  decided-damaged legal h =
      decided-as-sent (items L) (carries L) (tabulate (items L) (sent_on L d)) received b (d b) bit
      (λ n l t. get_or-tabulate (items L) (sent_on L d) n 0 l ∙ sent-carries L d n b t) (λ n l t. legal n l) h
