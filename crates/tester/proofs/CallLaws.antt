-- An entry's answer, handed to C. Assumes nothing.
use mathlib.Core.List.{List}
use mathlib.Core.Path.{◌≡◌, ap, ◌∙◌}
use Prim.Native.Nat.{ℕ}
use Rattle.std.specs.Prelude.{Result, Ok, Err, MatchResult, IsOkAnd}
use Rattle.refusal.specs.declared.Refusal.{Refusal}
use Rattle.refusal.specs.Report.{Report, done, answer, number, values}
use Rattle.refusal.specs.Outcome.{Outcome}
use Rattle.bands.specs.declared.Place.{Place}
use Rattle.bands.specs.declared.SubCarrier.{SubCarrier}
use Rattle.bands.specs.Units.{place_report, sub_carrier_report}
use Rattle.tester.specs.Call.{Reported, Returned}

pub reported : (r : Report ℕ) (a : Result ℕ Refusal) (n : ℕ) (value : List ℕ) → answer a ≡ r → n ≡ number (answer a) → value ≡ values (answer a) → Reported r n value
reported r a n value e g v = record { number_is = g ∙ ap number e; values-are = v ∙ ap values e }

pub returned : {A : Type 0} (o : Outcome ℕ A) (a : Result ℕ Refusal) (n : ℕ) (value : List ℕ) (out : A) → answer a ≡ o.report → out ≡ o.out → n ≡ number (answer a)
    → value ≡ values (answer a) → Returned o n value out
returned o a n value out e b g v = record { report-is = reported o.report a n value e g v; buffer-is = b }

-- a place, and a sub-carrier, as a number
pub place-number : (p : Result Place Refusal) (r : Result ℕ Refusal) → MatchResult p (λ x. IsOkAnd r (λ n. n ≡ x.0)) (λ e. r ≡ Err e) → answer r ≡ place_report p
place-number (Ok p) (Ok n) h = ap (λ (k : ℕ). done k) h
place-number (Ok p) (Err e) h = absurd h
place-number (Err e) r h = ap answer h

pub sub-carrier-number : (s : Result SubCarrier Refusal) (r : Result ℕ Refusal) → MatchResult s (λ x. IsOkAnd r (λ n. n ≡ x.0)) (λ e. r ≡ Err e) → answer r ≡ sub_carrier_report s
sub-carrier-number (Ok s) (Ok n) h = ap (λ (k : ℕ). done k) h
sub-carrier-number (Ok s) (Err e) h = absurd h
sub-carrier-number (Err e) r h = ap answer h
