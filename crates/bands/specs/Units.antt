-- A sub-carrier number and a place in a band's usable list are two units: place 0 is the band's first sub-carrier. Assumes nothing.
use Rattle.std.specs.Prelude.{◌||◌, [], ◌∷◌, ℕ, ◌+◌, ◌-◌, leb, ltb, Result, Ok, Err}
use Rattle.refusal.specs.declared.Refusal.TheVariants.{Mode, Length}
use Rattle.refusal.specs.Report.{Report, done, refusal}
use Rattle.refusal.specs.Outcome.{row, reported}
use Rattle.refusal.specs.declared.Refusal.{Refusal}
use Rattle.bands.specs.declared.Place.{Place}
use Rattle.bands.specs.declared.SubCarrier.{SubCarrier}
use Rattle.bands.specs.Bands.{band_count, first_sub_carrier, last_sub_carrier, carriers}

-- the report of each case of an answer
abbrev pub place_report : Result Place Refusal → Report ℕ
place_report (Ok p) = done p.0
place_report (Err r) = refusal r

abbrev pub sub_carrier_report : Result SubCarrier Refusal → Report ℕ
sub_carrier_report (Ok s) = done s.0
sub_carrier_report (Err r) = refusal r

-- the place of sub-carrier s in a band
unfoldable pub place_of : ℕ → ℕ → Report ℕ
place_of band s =
    reported
    (row (leb band_count band) Mode
    ∷ row (ltb s (first_sub_carrier band) || ltb (last_sub_carrier band) s) (Length s)
    ∷ [])
    (s - first_sub_carrier band)

-- the sub-carrier at place p of a band
unfoldable pub sub_carrier_of : ℕ → ℕ → Report ℕ
sub_carrier_of band p =
    reported
    (row (leb band_count band) Mode
    ∷ row (leb (carriers band) p) (Length p)
    ∷ [])
    (first_sub_carrier band + p)
