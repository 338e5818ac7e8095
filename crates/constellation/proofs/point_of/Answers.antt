-- `constellation::point_of` meets its contract: at each modulation its bits are there and are 0 or 1. Assumes nothing.
use mathlib.Core.Path.{◌≡◌, refl, ap, ◌∙◌}
use Prim.Native.Nat.{ℕ, ◌<◌}
use native.Mathlib.Omega.{arith}
use lib.Dec.{lit<}
use lib.IntN.{pos}
use lib.Ieee.{binary64, of_bits, of_int}
use lib.ListN.{length, get_or}
use Rattle.card.specs.Modes.{carrier_bits}
use Rattle.constellation.proofs.MappingLaws.{point-bpsk, point-qpsk, point-qam}
use Rattle.constellation.proofs.point_of.Goals as goal
use Rattle.constellation.proofs.point_of.Goals.{Else-modulation-eq1, Start}

zero_is : of_bits binary64 0 ≡ of_int binary64 (pos 0)
unfolding of_bits of_int
zero_is = refl

inside : (c : Start) (m k : ℕ) → c.args.modulation ≡ m → k < carrier_bits m → k < length c.args.bits.now
inside c m k e h = let n : length c.args.bits.now ≡ carrier_bits m = c.requires.1 ∙ ap carrier_bits e in omega arith

legal : (c : Start) (m k : ℕ) → c.args.modulation ≡ m → k < carrier_bits m → get_or c.args.bits.now k 0 < 2
legal c m k e h = c.requires.2 k (inside c m k e h)

-- past both branches the modulation is 16QAM
qam : (c : Else-modulation-eq1) → c.args.modulation ≡ 2
qam c = omega arith

pub bounds-bits-0 : goal.bounds-bits-0
bounds-bits-0 c = inside (goal.at.bounds-bits-0 c).Start 0 0 c.if-modulation-eq0.true (lit< tt)

pub level2-requires : goal.level2-requires
level2-requires c = legal (goal.at.level2-requires c).Start 0 0 c.if-modulation-eq0.true (lit< tt)

pub returns-then-modulation-eq0 : goal.returns-then-modulation-eq0
returns-then-modulation-eq0 c =
    point-bpsk _ _ c.if-modulation-eq0.true c.factor_of-f.ensures c.level2.ensures zero_is

pub bounds-bits-0-then-modulation-eq1 : goal.bounds-bits-0-then-modulation-eq1
bounds-bits-0-then-modulation-eq1 c = inside (goal.at.bounds-bits-0-then-modulation-eq1 c).Start 1 0 c.if-modulation-eq1.true (lit< tt)

pub level2-requires-then-modulation-eq1 : goal.level2-requires-then-modulation-eq1
level2-requires-then-modulation-eq1 c = legal (goal.at.level2-requires-then-modulation-eq1 c).Start 1 0 c.if-modulation-eq1.true (lit< tt)

pub bounds-bits-1 : goal.bounds-bits-1
bounds-bits-1 c =
    inside (goal.at.bounds-bits-1 c).Start 1 1 c.if-modulation-eq1.true (lit< tt)

pub level2-requires-then-modulation-eq1-2 : goal.level2-requires-then-modulation-eq1-2
level2-requires-then-modulation-eq1-2 c =
    legal (goal.at.level2-requires-then-modulation-eq1-2 c).Start 1 1 c.if-modulation-eq1.true (lit< tt)

pub returns-then-modulation-eq1 : goal.returns-then-modulation-eq1
returns-then-modulation-eq1 c =
    point-qpsk _ _ c.if-modulation-eq1.true c.factor_of-f.ensures c.level2-then-modulation-eq1.ensures c.level2-then-modulation-eq1-2.ensures

pub bounds-bits-0-2 : goal.bounds-bits-0-2
bounds-bits-0-2 c = inside (goal.at.bounds-bits-0-2 c).Start 2 0 (qam (goal.at.bounds-bits-0-2 c).Else-modulation-eq1) (lit< tt)

pub bounds-bits-1-2 : goal.bounds-bits-1-2
bounds-bits-1-2 c =
    inside (goal.at.bounds-bits-1-2 c).Start 2 1 (qam (goal.at.bounds-bits-1-2 c).Else-modulation-eq1) (lit< tt)

pub level4-requires : goal.level4-requires
level4-requires c =
    record {
      first_bound = legal (goal.at.level4-requires c).Start 2 0 (qam (goal.at.level4-requires c).Else-modulation-eq1) (lit< tt);
      second_bound = legal (goal.at.level4-requires c).Start 2 1 (qam (goal.at.level4-requires c).Else-modulation-eq1) (lit< tt);
    }

pub bounds-bits-2 : goal.bounds-bits-2
bounds-bits-2 c =
    inside (goal.at.bounds-bits-2 c).Start 2 2 (qam (goal.at.bounds-bits-2 c).Else-modulation-eq1) (lit< tt)

pub bounds-bits-3 : goal.bounds-bits-3
bounds-bits-3 c =
    inside (goal.at.bounds-bits-3 c).Start 2 3 (qam (goal.at.bounds-bits-3 c).Else-modulation-eq1) (lit< tt)

pub level4-requires-2 : goal.level4-requires-2
level4-requires-2 c =
    record {
      first_bound = legal (goal.at.level4-requires-2 c).Start 2 2 (qam (goal.at.level4-requires-2 c).Else-modulation-eq1) (lit< tt);
      second_bound = legal (goal.at.level4-requires-2 c).Start 2 3 (qam (goal.at.level4-requires-2 c).Else-modulation-eq1) (lit< tt);
    }

pub returns : goal.returns
returns c =
    point-qam _ _ (qam (goal.at.returns c).Else-modulation-eq1) c.factor_of-f.ensures c.level4.ensures c.level4-2.ensures
