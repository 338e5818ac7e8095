-- The bands' numbers. Each table's fact is one computed test over the bands. Assumes nothing.
use mathlib.Core.Path.{◌≡◌}
use Prim.Native.Nat.{ℕ, ◌+◌, ◌≤◌, ◌<◌}
use native.Mathlib.Omega.{arith}
use lib.Dec.{leb, leb→le}
use lib.ListN.{length, take}
use Rattle.bits.proofs.RangeLaws.{at_each, agree, under}
use Rattle.bands.specs.Bands.{band_count, first_sub_carrier, last_sub_carrier, symbols, symbol_offsets, offsets, carriers}

-- a band's sub-carriers, first to last, are numbers below 512, and it has at most twelve symbols
pub first-last : (band : ℕ) → band < band_count → first_sub_carrier band ≤ last_sub_carrier band
first-last band h =
    leb→le (first_sub_carrier band) (last_sub_carrier band) (at_each band_count (λ band. leb (first_sub_carrier band) (last_sub_carrier band)) tt band h)

pub last-below : (band : ℕ) → band < band_count → last_sub_carrier band < 512
last-below band h = under band_count 512 last_sub_carrier tt band h

pub symbols-few : (band : ℕ) → band < band_count → symbols band < 13
symbols-few band h = under band_count 13 symbols tt band h

-- the carriers are those from the first to the last
pub carriers-between : (band : ℕ) → band < band_count → first_sub_carrier band + carriers band ≡ last_sub_carrier band + 1
unfolding carriers
carriers-between band h = omega (arith, first-last band h)

pub carriers-below : (band : ℕ) → band < band_count → carriers band < 513
carriers-below band h = omega (arith, carriers-between band h, last-below band h)

-- a band has an offset for each of its symbols: the first of all offsets
pub offset-count : (band : ℕ) → band < band_count → length (offsets band) ≡ symbols band
unfolding offsets
offset-count band h = agree band_count (λ band. length (offsets band)) symbols tt band h

pub offsets_are : (band count : ℕ) → count ≡ symbols band → take count symbol_offsets ≡ offsets band
unfolding offsets
offsets_are band count e = rw e
