-- What a call over the C interface returns, stores and leaves behind. Assumes nothing.
use Rattle.std.specs.Prelude.{List, ◌≡◌, ℕ}
use Rattle.refusal.specs.Report.{Report, number, values}
use Rattle.refusal.specs.Outcome.{Outcome}

-- a report as C sees it: the number returned, and the two values stored
pub record Reported (r : Report ℕ) (n : ℕ) (value : List ℕ) : Type 0 where
  pub number_is : n ≡ number r
  pub values-are : value ≡ values r

-- an outcome as C sees it: its report, and what the lent buffer then holds
pub record Returned {A : Type 0} (o : Outcome ℕ A) (n : ℕ) (value : List ℕ) (out : A) : Type 0 where
  pub report-is : Reported o.report n value
  pub buffer-is : out ≡ o.out

-- the version of the C interface, 3.1.0: minor number and patch have two digits each
abbrev pub interface_version : ℕ
interface_version = 30100
