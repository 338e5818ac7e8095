-- Laws of outcomes: a refusal keeps the lent memory, whatever the rows, and a report decides the answer. Assumes nothing.
use mathlib.Core.Path.{◌≡◌, refl, sym, ap, ◌∙◌}
use mathlib.Core.Bool.{Bool, true, false, cond}
use mathlib.Core.List.{List, [], ◌∷◌, ◌++◌, append-nil}
use Prim.{Unit}
use Prim.Native.Nat.{ℕ}
use native.Mathlib.Omega.{arith}
use lib.Dec.{eqb}
use lib.ListN.{length}
use Rattle.refusal.specs.declared.Refusal.{Refusal}
use Rattle.refusal.specs.declared.Refusal.TheVariants.{CardLength, Version, VersionLength, Mode, Length, Room, Item, Majority, Parity, Counts}
use Rattle.refusal.specs.Report.{Report, done, refused, refusal, number}
use Rattle.refusal.specs.Outcome.{Row, Outcome, first_applicable, in_order, row_order, reported, outcome}

-- the outcome by rows that are in order
abbrev pub outcome_by : {A B : Type 0} → List Row → B → A → B → Outcome A B
outcome_by rows out a made = first_applicable rows (λ r. record { report = refusal r; out = out }) (record { report = done a; out = made })

abbrev chosen : {A B : Type 0} → Bool → Refusal → B → Outcome A B → Outcome A B
chosen b r out rest = cond b (record { report = refusal r; out = out }) rest

kept_by : {A B : Type 0} (rows : List Row) (out : B) (a : A) (made : B) → (number (outcome_by rows out a made).report ≡ 0 → ⊥) → (outcome_by rows out a made).out ≡ out
kept_by [] out a made h = absurd (h refl)
kept_by {A} {B} (r ∷ rows) out a made h = go r.applies h (kept_by rows out a made)
  where
    go : (b : Bool) → (number (chosen b r.cause out (outcome_by rows out a made)).report ≡ 0 → ⊥)
        → ((number (outcome_by rows out a made).report ≡ 0 → ⊥) → (outcome_by rows out a made).out ≡ out) → (chosen b r.cause out (outcome_by rows out a made)).out ≡ out
    go true k ih = refl
    go false k ih = ih k

-- a refused outcome keeps the lent memory, whatever its rows
pub kept : {A B : Type 0} (rows : List Row) (out : B) (a : A) (made : B)
    → (number (outcome rows out a made).report ≡ 0 → ⊥) → (outcome rows out a made).out ≡ out
kept rows out a made h = kept_by (in_order row_order rows) out a made h

-- two answers with one report are the same answer
pub done-same : {A : Type 0} {a b : A} → done a ≡ done b → a ≡ b
done-same e = cc

-- ---- the report of a refusal

-- the refusal that a report comes from, as a list of one; none where it is an answer
back : {A : Type 0} → Report A → List Refusal
back (done a) = []
back (refused n v w) =
    cond (eqb n 1) (CardLength v)
    (cond (eqb n 2) Version
    (cond (eqb n 10) VersionLength
    (cond (eqb n 4) (Length v)
    (cond (eqb n 5) (Room v)
    (cond (eqb n 6) (Item v)
    (cond (eqb n 7) (Majority v)
    (cond (eqb n 8) (Parity v)
    (cond (eqb n 11) Counts Mode))))))))
    ∷ []

-- a refusal's report is its number with one value, and no other refusal has it
reported-as : (A : Type 0) (r : Refusal) → (v : ℕ) × (refusal {A = A} r ≡ refused (number (refusal {A = ℕ} r)) v 0) × (back (refusal {A = A} r) ≡ r ∷ [])
unfolding back
reported-as A (CardLength n) = (n, refl, refl)
reported-as A Version = (0, refl, refl)
reported-as A VersionLength = (0, refl, refl)
reported-as A Mode = (0, refl, refl)
reported-as A (Length n) = (n, refl, refl)
reported-as A (Room n) = (n, refl, refl)
reported-as A (Item n) = (n, refl, refl)
reported-as A (Majority n) = (n, refl, refl)
reported-as A (Parity n) = (n, refl, refl)
reported-as A Counts = (0, refl, refl)

-- what is made of any report is made of a refusal's by its number and a value
pub refused_as : {A X : Type 0} (f : Report A → X) (r : Refusal) → (v : ℕ) × (f (refusal r) ≡ f (refused (number (refusal {A = ℕ} r)) v 0))
refused_as {A} f r = let (v, e, b) = reported-as A r in (v, ap f e)

-- two refusals with one report are the same refusal
pub refusal-decides : (A : Type 0) (r s : Refusal) → refusal {A = A} r ≡ refusal s → r ≡ s
refusal-decides A r s e = let q : r ∷ [] ≡ s ∷ [] = sym (reported-as A r).2 ∙ ap back e ∙ (reported-as A s).2 in cc

-- no refusal's report is an answer
not_done : {A : Type 0} (r : Refusal) {a : A} → refusal r ≡ done a → ⊥
unfolding back
not_done {A} r e = let q : r ∷ [] ≡ [] = sym (reported-as A r).2 ∙ ap back e in let z : ◌≡◌ {A = ℕ} 1 0 = ap length q in omega arith

-- no row applies
abbrev pub NoneApplies : List Row → Type 0
NoneApplies [] = Unit {0}
NoneApplies (r ∷ rs) = (r.applies ≡ false) × NoneApplies rs

-- of rows behind each other none applies
pub none-parts : (rows rest : List Row) → NoneApplies (rows ++ rest) → NoneApplies rows × NoneApplies rest
none-parts [] rest none = (tt, none)
none-parts (r ∷ rows) rest (no_row, none) = let (first, last) = none-parts rows rest none in ((no_row, first), last)

done-by : {A : Type 0} (rows : List Row) (a d : A) → first_applicable rows refusal (done a) ≡ done d → NoneApplies rows × (first_applicable rows refusal (done a) ≡ done a)
done-by [] a d e = (tt, refl)
done-by {A} (r ∷ rows) a d e = go r.applies refl e (done-by rows a d)
  where
    go : (b : Bool) → r.applies ≡ b → cond b (refusal r.cause) (first_applicable rows refusal (done a)) ≡ done d
        → (first_applicable rows refusal (done a) ≡ done d → NoneApplies rows × (first_applicable rows refusal (done a) ≡ done a))
        → ((r.applies ≡ false) × NoneApplies rows) × (cond r.applies (refusal r.cause) (first_applicable rows refusal (done a)) ≡ done a)
    go true q f ih = absurd (not_done r.cause f)
    go false q f ih = let (none, is) = ih f in ((q, none), (rw q is))

-- where an entry is done, no row applies
pub reported-done : {A : Type 0} (rows : List Row) (a d : A) → reported rows a ≡ done d → NoneApplies (in_order row_order rows) × (reported rows a ≡ done a)
reported-done rows a d e = done-by (in_order row_order rows) a d e

-- where no row applies, the answer
pub reported-good : {A : Type 0} (rows : List Row) (a : A) → NoneApplies (in_order row_order rows) → reported rows a ≡ done a
reported-good rows a none = good (in_order row_order rows) none
  where
    good : (rs : List Row) → NoneApplies rs → first_applicable rs refusal (done a) ≡ done a
    good [] none = refl
    good (r ∷ rs) (no_row, none) = rw no_row (good rs none)

outcome-by-good : {A B : Type 0} (rows : List Row) (out : B) (a : A) (made : B) → NoneApplies rows → outcome_by rows out a made ≡ record { report = done a; out = made }
outcome-by-good [] out a made none = refl
outcome-by-good (r ∷ rows) out a made (no_row, none) = rw no_row (outcome-by-good rows out a made none)

-- where no row applies, the outcome is the answer and what was made
pub outcome-good : {A B : Type 0} (rows : List Row) (out : B) (a : A) (made : B) → NoneApplies (in_order row_order rows) → outcome rows out a made ≡ record { report = done a; out = made }
outcome-good rows out a made none = outcome-by-good (in_order row_order rows) out a made none

report-by : {A B : Type 0} (rows : List Row) (out : B) (a : A) (made : B) → (outcome_by rows out a made).report ≡ first_applicable rows refusal (done a)
report-by [] out a made = refl
report-by {A} {B} (r ∷ rows) out a made = go r.applies (report-by rows out a made)
  where
    go : (b : Bool) → (outcome_by rows out a made).report ≡ first_applicable rows refusal (done a)
        → (chosen b r.cause out (outcome_by rows out a made)).report ≡ cond b (refusal r.cause) (first_applicable rows refusal (done a))
    go true ih = refl
    go false ih = ih

-- an outcome's report is that of the rows alone
pub report-of : {A B : Type 0} (rows : List Row) (out : B) (a : A) (made : B) → (outcome rows out a made).report ≡ reported rows a
report-of rows out a made = report-by (in_order row_order rows) out a made

-- where an outcome is done, no row applies
pub outcome-done : {A B : Type 0} (rows : List Row) (out : B) (a d : A) (made : B) → (outcome rows out a made).report ≡ done d → NoneApplies (in_order row_order rows)
outcome-done rows out a d made e = (done-by (in_order row_order rows) a d (sym (report-by (in_order row_order rows) out a made) ∙ e)).0

-- ---- rows that come first: what they report decides, and where they let pass, the rest does

refused-first : {A X : Type 0} (rows rest : List Row) (a : A) (r : Refusal) (f : Refusal → X) (good : X)
    → first_applicable rows refusal (done a) ≡ refusal r → first_applicable (rows ++ rest) f good ≡ f r
refused-first {A} [] rest a r f good e = absurd (not_done r (sym e))
refused-first {A} {X} (x ∷ rows) rest a r f good e = go x.applies e (refused-first rows rest a r f good)
  where
    go : (b : Bool) → cond b (refusal x.cause) (first_applicable rows refusal (done a)) ≡ refusal r
        → (first_applicable rows refusal (done a) ≡ refusal r → first_applicable (rows ++ rest) f good ≡ f r)
        → cond b (f x.cause) (first_applicable (rows ++ rest) f good) ≡ f r
    go true d ih = ap f (refusal-decides A x.cause r d)
    go false d ih = ih d

none_first : {X : Type 0} (rows rest : List Row) (f : Refusal → X) (good : X) → NoneApplies rows → first_applicable (rows ++ rest) f good ≡ first_applicable rest f good
none_first [] rest f good none = refl
none_first (x ∷ rows) rest f good (no_row, none) = rw no_row (none_first rows rest f good none)

passed_first : {A X : Type 0} (rows rest : List Row) (a d : A) (f : Refusal → X) (good : X)
    → first_applicable rows refusal (done a) ≡ done d → first_applicable (rows ++ rest) f good ≡ first_applicable rest f good
passed_first rows rest a d f good e = none_first rows rest f good (done-by rows a d e).0

pub refused-outcome : {A B C : Type 0} (rows rest : List Row) (d : C) (r : Refusal) (out : B) (a : A) (made : B)
    → first_applicable rows refusal (done d) ≡ refusal r → outcome_by (rows ++ rest) out a made ≡ record { report = refusal r; out = out }
refused-outcome rows rest d r out a made e = refused-first rows rest d r (λ x. record { report = refusal x; out = out }) (record { report = done a; out = made }) e

pub passed-outcome : {A B C : Type 0} (rows rest : List Row) (d c : C) (out : B) (a : A) (made : B)
    → first_applicable rows refusal (done d) ≡ done c → outcome_by (rows ++ rest) out a made ≡ outcome_by rest out a made
passed-outcome rows rest d c out a made e = passed_first rows rest d c (λ x. record { report = refusal x; out = out }) (record { report = done a; out = made }) e

-- where the same rows refuse over some memory, they refuse by the same cause over any
pub refused-alike : {A B : Type 0} (rows : List Row) (was : B) (a : A) (make : B) (r : Refusal) (out made : B)
    → (outcome rows was a make).report ≡ refusal r → outcome rows out a made ≡ record { report = refusal r; out = out }
refused-alike rows was a make r out made e =
    ap (λ (rs : List Row). outcome_by rs out a made) (sym (append-nil (in_order row_order rows)))
    ∙ refused-outcome (in_order row_order rows) [] a r out a made (sym (report-of rows was a make) ∙ e)

-- rows that come first and do not apply
pub none-outcome : {A B : Type 0} (rows rest : List Row) (out : B) (a : A) (made : B) → NoneApplies rows → outcome_by (rows ++ rest) out a made ≡ outcome_by rest out a made
none-outcome rows rest out a made none = none_first rows rest (λ x. record { report = refusal x; out = out }) (record { report = done a; out = made }) none

pub refused-report : {A C : Type 0} (rows rest : List Row) (d : C) (r : Refusal) (a : A)
    → first_applicable rows refusal (done d) ≡ refusal r → first_applicable (rows ++ rest) refusal (done a) ≡ refusal r
refused-report rows rest d r a e = refused-first rows rest d r refusal (done a) e

pub passed-report : {A C : Type 0} (rows rest : List Row) (d c : C) (a : A)
    → first_applicable rows refusal (done d) ≡ done c → first_applicable (rows ++ rest) refusal (done a) ≡ first_applicable rest refusal (done a)
passed-report rows rest d c a e = passed_first rows rest d c refusal (done a) e
