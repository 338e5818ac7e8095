-- What damage a frame control survives, over the carrier count C and the offsets os: each bit is decided as sent below the fewest
-- copies, and some damage of just so many leaves a bit undecided. Assumes nothing.
use Rattle.std.proofs.Common.{◌≡◌, ℕ, ◌+◌, ◌*◌, ◌<◌, List, ap, ◌∙◌, arith}
use Rattle.bits.specs.Lists.{tabulate}
use Rattle.bits.proofs.ListLaws.{get_or-tabulate, tabulate-ext}
use Rattle.votes.specs.Votes.{carries, decided}
use Rattle.votes.specs.Damage.{Damage, altered, lost}
use Rattle.votes.proofs.VoteLaws.{undamaged}
use Rattle.votes.proofs.DamageLaws.{Undecides, carries-bit, lanes-survive, lanes-undecide}
use Rattle.diversity.specs.Lanes.{lane_bit, carrier_count, item_count}
use Rattle.diversity.specs.Copies.{copies_of, fewest_copies}
use Rattle.diversity.proofs.LaneLaws.{lanes-differ}
use Rattle.diversity.proofs.CopyLaws.{copies-range, fewest-met}

-- the bits d go out, on each lane the bit that it carries
module _ (C : ℕ) (os : List ℕ) (d : ℕ → ℕ) (bits : (b : ℕ) → d b < 2) where
  abbrev pub copied : List ℕ
  copied = tabulate (item_count C os) (λ n. d (lane_bit C os n))

  -- below the fewest copies every bit is decided as sent
  pub below-limit : (items : List ℕ) → Damage (item_count C os) items
      → 2 * altered (carrier_count C os) copied items + lost (carrier_count C os) copied items < fewest_copies C os
      → tabulate 256 (decided (item_count C os) (carries (lane_bit C os)) items) ≡ tabulate 256 d
  unfolding item_count copies_of
  below-limit items damage h =
      lanes-survive (carrier_count C os) (lane_bit C os) (λ k l. lanes-differ C os k) d bits 256 (fewest_copies C os)
      (λ b l. (copies-range C os b l).0) items damage h

  -- some damage of just the fewest leaves a bit undecided
  pub at-limit : (items : List ℕ) × (b : ℕ) × (b < 256) × Undecides (carrier_count C os) (carries (lane_bit C os)) copied b (fewest_copies C os) items
  unfolding item_count copies_of
  at-limit =
      let (b, l, e) = fewest-met C os in
      let (items, u) = lanes-undecide (carrier_count C os) (lane_bit C os) (λ k l. lanes-differ C os k) d bits b in
      (items, b, l, rw e at u)

  -- undamaged, a bit with a copy is decided as sent
  pub no-damage : 0 < fewest_copies C os → tabulate 256 (decided (item_count C os) (carries (lane_bit C os)) copied) ≡ tabulate 256 d
  unfolding copies_of
  no-damage some =
      tabulate-ext 256 _ _
      (λ b l. undamaged (item_count C os) (carries (lane_bit C os)) copied b (d b) (bits b)
      (λ n h t. get_or-tabulate (item_count C os) _ n 0 h ∙ ap d (carries-bit (lane_bit C os) n b t)) (omega (arith, some, (copies-range C os b l).0)))
