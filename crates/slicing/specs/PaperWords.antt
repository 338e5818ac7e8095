-- Slicing in the words of the papers, over exact numbers (D14). `Slicing` goes by comparisons of f64 in their place. Assumes nothing.
use Rattle.std.specs.Prelude.{ℕ, ◌*◌, Bool, cond, ◌&&◌, ◌||◌, leb, ltb, Float}
use Rattle.std.specs.Float.{nan, inf, fin}
use Rattle.constellation.specs.Factors.{factor_of}
use Rattle.slicing.specs.Slicing.{Reading, level, lost}
use Rattle.slicing.specs.Distances.{scaled, at_most}
use Rattle.slicing.specs.Ends.{low_end, high_end}

-- the size of a finite x is at most f/8; is below 2f; is from one end about 2f to the other, both included
abbrev pub at_most_eighth : Float → Float → Bool
at_most_eighth f x = leb (8 * scaled x f) (scaled f x)

abbrev pub below_twice : Float → Float → Bool
below_twice f x = ltb (scaled x f) (2 * scaled f x)

abbrev pub about_twice : Float → Bool
about_twice x = at_most low_end x && at_most x high_end

-- a size of at most f/8, or what is not finite, gives nothing; otherwise the sign gives the level
abbrev pub worded2 : ℕ → Float → Reading
worded2 modulation nan = lost
worded2 modulation (inf s) = lost
worded2 modulation (fin s n e) = cond (at_most_eighth (factor_of modulation) (fin s n e)) lost (cond s (level 0) (level 1))

-- a size about 2f gives nothing either; otherwise the sign, and the side of 2f, gives the level
abbrev pub worded4 : Float → Reading
worded4 nan = lost
worded4 (inf s) = lost
worded4 (fin s n e) =
    cond (at_most_eighth (factor_of 2) (fin s n e) || about_twice (fin s n e)) lost
    (cond (below_twice (factor_of 2) (fin s n e)) (cond s (level 1) (level 2)) (cond s (level 0) (level 3)))
