-- Reports: the number of paper 01's table ("Numbers a fitter may see") and what comes with it. Assumes nothing.
use Rattle.std.specs.Prelude.{List, [], ◌∷◌, ℕ, Result, Ok, Err}
use Rattle.refusal.specs.declared.Refusal.{Refusal}
use Rattle.refusal.specs.declared.Refusal.TheVariants.{CardLength, Version, VersionLength, Mode, Length, Room, Item, Majority, Parity, Counts}

-- 0 with the answer, or a number of the table with the two values that come with it
pub data Report (A : Type 0) : Type 0 where
  done : A → Report A
  refused : ℕ → ℕ → ℕ → Report A

-- the number and the values of each case of a refusal; no row of the table has a second value yet
abbrev pub refusal : {A : Type 0} → Refusal → Report A
refusal (CardLength n) = refused 1 n 0
refusal Version = refused 2 0 0
refusal VersionLength = refused 10 0 0
refusal Mode = refused 3 0 0
refusal (Length n) = refused 4 n 0
refusal (Room n) = refused 5 n 0
refusal (Item n) = refused 6 n 0
refusal (Majority n) = refused 7 n 0
refusal (Parity n) = refused 8 n 0
refusal Counts = refused 11 0 0

-- the report of each case of an answer
abbrev pub answer : {A : Type 0} → Result A Refusal → Report A
answer (Ok a) = done a
answer (Err r) = refusal r

-- a report's number
abbrev pub number : {A : Type 0} → Report A → ℕ
number (done a) = 0
number (refused n v w) = n

-- what comes with the number, where the answer is a number itself
abbrev pub values : Report ℕ → List ℕ
values (done n) = n ∷ 0 ∷ []
values (refused n v w) = v ∷ w ∷ []
