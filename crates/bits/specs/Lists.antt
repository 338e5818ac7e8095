-- Lists given by an index function, buffers of which the first part is written, and searches from the front.
-- Assumes nothing.
use Rattle.std.specs.Prelude.{Bool, cond, List, [], ◌∷◌, ◌++◌, ℕ, zero, suc, ltb, length, get_or, drop}

-- the list f 0, f 1, .., of n elements
unfoldable pub tabulate : {A : Type 0} → ℕ → (ℕ → A) → List A
tabulate zero f = []
tabulate (suc n) f = tabulate n f ++ (f n ∷ [])

-- the list whose first n elements are written by f, and the rest kept
unfoldable pub written : {A : Type 0} → ℕ → (ℕ → A) → List A → List A
written n f out = tabulate n f ++ drop n out

-- the lowest number below n at which the test holds, or n where there is none
unfoldable pub lowest : ℕ → (ℕ → Bool) → ℕ
lowest zero t = zero
lowest (suc n) t = cond (t zero) zero (suc (lowest n (λ k. t (suc k))))

-- the lowest index of an element above the limit, or the length where there is none
unfoldable pub first_above : ℕ → List ℕ → ℕ
first_above limit xs = lowest (length xs) (λ k. ltb limit (get_or xs k 0))
