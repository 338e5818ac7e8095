-- Orders of the numbers below n. Assumes nothing.
use Rattle.std.specs.Prelude.{◌≡◌, ℕ, ◌<◌}

-- f maps the numbers below n to numbers below n, and no two to one
pub record Permutes (n : ℕ) (f : ℕ → ℕ) : Type 0 where
  pub below : (x : ℕ) → x < n → f x < n
  pub apart : (x y : ℕ) → x < n → y < n → f x ≡ f y → x ≡ y

-- each number below n comes once among f 0, .., f (n - 1): at one place, and at no other
abbrev pub Once : ℕ → (ℕ → ℕ) → Type 0
Once n f = (x : ℕ) → x < n → (p : ℕ) × (p < n) × (f p ≡ x) × ((o : ℕ) → o < n → f o ≡ x → o ≡ p)
