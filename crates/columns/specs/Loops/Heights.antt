-- The heights of columns that the loops serve. Assumes nothing.
use Rattle.std.specs.Prelude.{◌≡◌, cond, ℕ, ◌*◌, ◌/◌, ◌%◌, ◌<◌, ◌≤◌, eqb}

-- the tallest columns that are served: 1,040 rows, or 130 where the height is not in whole bytes
abbrev pub tallest : ℕ → ℕ
tallest h = cond (eqb (h % 8) 0) 1040 130

-- a height that is served: columns in whole bytes
pub record ServedHeight (h : ℕ) : Type 0 where
  pub some : 0 < h
  pub fits : h ≤ tallest h
  pub even : 2 * (h / 2) ≡ h
