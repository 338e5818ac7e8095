-- Outcomes: rows of refusals in the table's order, and what an entry reports and leaves in lent memory. Assumes nothing.
use Rattle.std.specs.Prelude.{Bool, cond, List, [], ◌∷◌, ◌++◌, ℕ, eqb}
use Rattle.refusal.specs.declared.Refusal.{Refusal}
use Rattle.refusal.specs.Report.{Report, done, refusal, number}

-- the order in which causes are checked: paper 01's table from top to bottom, with 10 behind 2, 11 last, and without 9, which is withdrawn
abbrev pub row_order : List ℕ
row_order = 1 ∷ 2 ∷ 10 ∷ 3 ∷ 4 ∷ 5 ∷ 6 ∷ 7 ∷ 8 ∷ 11 ∷ []

-- a cause that an entry checks, and whether it applies
pub record Row : Type 0 where
  pub applies : Bool
  pub cause : Refusal

abbrev pub row : Bool → Refusal → Row
row applies cause = record { applies = applies; cause = cause }

-- the rows of one number, in the order given
abbrev pub rows_of : ℕ → List Row → List Row
rows_of n [] = []
rows_of n (r ∷ rs) = cond (eqb (number (refusal {A = ℕ} r.cause)) n) (r ∷ rows_of n rs) (rows_of n rs)

-- an entry's rows in the order of some numbers
abbrev pub in_order : List ℕ → List Row → List Row
in_order [] rows = []
in_order (n ∷ ns) rows = rows_of n rows ++ in_order ns rows

-- what is made of the first row that applies, or `good` where none does
abbrev pub first_applicable : {A : Type 0} → List Row → (Refusal → A) → A → A
first_applicable [] refuse good = good
first_applicable (r ∷ rs) refuse good = cond r.applies (refuse r.cause) (first_applicable rs refuse good)

-- the report of an entry that lends nothing: by the table's order, or the answer
abbrev pub reported : {A : Type 0} → List Row → A → Report A
reported rows a = first_applicable (in_order row_order rows) refusal (done a)

-- what an entry reports, and what it leaves in the memory lent to it
pub record Outcome (A B : Type 0) : Type 0 where
  pub report : Report A
  pub out : B

-- by the table's order: a refusal keeps what was lent; where no row applies, the answer and what was made
abbrev pub outcome : {A B : Type 0} → List Row → B → A → B → Outcome A B
outcome rows out a made =
    first_applicable (in_order row_order rows) (λ r. record { report = refusal r; out = out }) (record { report = done a; out = made })
