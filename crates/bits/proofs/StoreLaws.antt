-- Laws of stores into a buffer, one after the other. Assumes nothing.
use mathlib.Core.Path.{◌≡◌, refl, sym, ap, ◌∙◌}
use mathlib.Core.List.{List}
use mathlib.Core.Logic.{◌⊎◌, inl, inr}
use Prim.Native.Nat.{ℕ, zero, suc, ◌+◌, ◌*◌, ◌<◌, ◌≤◌}
use native.Mathlib.Nat.{add-zero, add-suc, eq-or-lt_of_le, le_of_suc-le-suc, not-suc-le-zero}
use native.Mathlib.Numerals.{add-one}
use native.Mathlib.Omega.{arith}
use lib.ListN.{length, get_or, set, length-set}
use lib.Seq.{get_or-set_same, get_or-set_other, ext_get_or}
use lib.Dec.{eqb}
use borrow.Author.Tests.{eqb-true, eqb-false}
use Rattle.bits.specs.Lists.{written, lowest}
use Rattle.bits.specs.Permutations.{Permutes}
use Rattle.bits.proofs.NumberLaws.{lt-cases}
use Rattle.bits.proofs.ListLaws.{written_of, written_next, written-ext, lowest-at, lowest-below}
use Rattle.bits.proofs.PermutationLaws.{inverse, inverse-after, after-inverse, inverse-lt}
use Rattle.bits.specs.Loops.Words.{stored}

pub stored-none : (w v : ℕ → ℕ) (out : List ℕ) → out ≡ stored 0 w v out
unfolding stored
stored-none w v out = refl

pub length-stored : (n : ℕ) (w v : ℕ → ℕ) (out : List ℕ) → length (stored n w v out) ≡ length out
unfolding stored
length-stored zero w v out = refl
length-stored (suc n) w v out = length-set (stored n w v out) (w n) (v n) ∙ length-stored n w v out

-- a loop's turn: one store more
pub stored_next : (n : ℕ) (w v : ℕ → ℕ) (out now : List ℕ) {at x : ℕ} → now ≡ stored n w v out
    → at ≡ w n → x ≡ v n → set now at x ≡ stored (n + 1) w v out
unfolding stored
stored_next n w v out now e a b = rw (add-one, e, a, b)

-- four stores
pub stored-four : (w v : ℕ → ℕ) (out : List ℕ) {a b c d x y z u : ℕ} → a ≡ w 0 → b ≡ w 1 → c ≡ w 2 → d ≡ w 3 → x ≡ v 0 → y ≡ v 1 → z ≡ v 2 → u ≡ v 3
    → set (set (set (set out a x) b y) c z) d u ≡ stored 4 w v out
stored-four w v out a b c d x y z u =
    stored_next 3 w v out _ (stored_next 2 w v out _ (stored_next 1 w v out _ (stored_next 0 w v out out (stored-none w v out) a x) b y) c z) d u

-- the first a stores, and the b after them
pub stored-append : (a b : ℕ) (w v : ℕ → ℕ) (out : List ℕ) → stored (a + b) w v out ≡ stored b (λ k. w (a + k)) (λ k. v (a + k)) (stored a w v out)
unfolding stored
stored-append a zero w v out = rw add-zero
stored-append a (suc b) w v out = rw (add-suc, stored-append a b w v out)

-- m elements side by side, stored after the first n
pub stored-run : (m n : ℕ) (v f : ℕ → ℕ) (out now : List ℕ) → now ≡ written n f out → n + m ≤ length out → ((c : ℕ) → c < m → v c ≡ f (n + c))
    → stored m (λ c. c * 1 + n) v now ≡ written (n + m) f out
unfolding stored
stored-run zero n v f out now e room same = e ∙ ap (λ (k : ℕ). written k f out) (sym (add-zero n))
stored-run (suc m) n v f out now e room same =
    let at : m * 1 + n ≡ n + m = omega arith in
    let q : n + m + 1 ≡ n + suc m = omega arith in
    let so_far : stored m (λ c. c * 1 + n) v now ≡ written (n + m) f out =
    stored-run m n v f out now e (omega arith) (λ c h. same c (omega arith)) in
    rw at (written_next (n + m) (v m) f out (stored m (λ c. c * 1 + n) v now) so_far (omega arith) (same m (omega arith)) ∙ ap (λ (k : ℕ). written k f out) q)

pub stored-ext : (n : ℕ) (w v w' v' : ℕ → ℕ) (out : List ℕ)
    → ((k : ℕ) → k < n → w k ≡ w' k) → ((k : ℕ) → k < n → v k ≡ v' k)
    → stored n w v out ≡ stored n w' v' out
unfolding stored
stored-ext zero w v w' v' out p q = refl
stored-ext (suc n) w v w' v' out p q =
    rw (p n (omega arith), q n (omega arith), stored-ext n w v w' v' out (λ k h. p k (omega arith)) (λ k h. q k (omega arith)))

-- what stands where nothing is stored
stored-off : (n : ℕ) (w v : ℕ → ℕ) (out : List ℕ) (x : ℕ) → ((k : ℕ) → k < n → x ≡ w k → ⊥) → get_or (stored n w v out) x 0 ≡ get_or out x 0
unfolding stored
stored-off zero w v out x h = refl
stored-off (suc n) w v out x h =
    get_or-set_other (stored n w v out) (w n) x (v n) 0 (h n (omega arith)) ∙ stored-off n w v out x (λ k l. h k (omega arith))

-- what stands where something is stored, where no place comes twice
stored_at : (n : ℕ) (w v : ℕ → ℕ) (out : List ℕ) → ((j k : ℕ) → j < n → k < n → w j ≡ w k → j ≡ k)
    → (k : ℕ) → k < n → w k < length out → get_or (stored n w v out) (w k) 0 ≡ v k
unfolding stored
stored_at zero w v out one k h l = absurd (not-suc-le-zero h)
stored_at (suc n) w v out one k h l =
    go (eq-or-lt_of_le (le_of_suc-le-suc h)) (λ b. stored_at n w v out (λ i j hi hj e. one i j (omega arith) (omega arith) e) k b l)
  where
    go : (k ≡ n) ⊎ (k < n) → (k < n → get_or (stored n w v out) (w k) 0 ≡ v k) → get_or (set (stored n w v out) (w n) (v n)) (w k) 0 ≡ v k
    go (inl e) ih =
        let b : w n < length (stored n w v out) = omega (arith, length-stored n w v out, ap w e) in
        rw e (get_or-set_same (stored n w v out) (w n) (v n) 0 b)
    go (inr b) ih =
        get_or-set_other (stored n w v out) (w n) (w k) (v n) 0 (λ e. let z : k ≡ n = one k n h (omega arith) e in omega arith)
        ∙ ih b

-- stores in another order, where no place comes twice
pub stored-reordered : (n : ℕ) (o w v : ℕ → ℕ) (out : List ℕ) → Permutes n o → ((j k : ℕ) → j < n → k < n → w j ≡ w k → j ≡ k)
    → ((k : ℕ) → k < n → w k < length out) → stored n w v out ≡ stored n (λ k. w (o k)) (λ k. v (o k)) out
stored-reordered n o w v out P one room =
    ext_get_or 0 (stored n w v out) (stored n (λ k. w (o k)) (λ k. v (o k)) out)
    (length-stored n w v out ∙ sym (length-stored n (λ k. w (o k)) (λ k. v (o k)) out))
    (λ x l.
    let k = lowest n (λ j. eqb (w j) x) in
    lt-cases k n
    (λ h.
    let e : w k ≡ x = eqb-true (w k) x (lowest-at n (λ j. eqb (w j) x) h) in
    let i = inverse n o k in
    let hi = inverse-lt n o P k h in
    let f : o i ≡ k = after-inverse n o P k h in
    rw (← e)
    (stored_at n w v out one k h (room k h)
    ∙ sym
    (ap (λ (y : ℕ). get_or (stored n (λ j. w (o j)) (λ j. v (o j)) out) (w y) 0) (sym f)
    ∙ stored_at n (λ j. w (o j)) (λ j. v (o j)) out
    (λ a b ha hb z. P.apart a b ha hb (one (o a) (o b) (P.below a ha) (P.below b hb) z)) i hi (room (o i) (P.below i hi)) ∙ ap v f)))
    (λ h.
    let none : (j : ℕ) → j < n → x ≡ w j → ⊥ =
    λ j b e. eqb-false (w j) x (lowest-below n (λ j. eqb (w j) x) j (omega arith)) (sym e) in
    stored-off n w v out x none ∙ sym (stored-off n (λ j. w (o j)) (λ j. v (o j)) out x (λ j b. none (o j) (P.below j b)))))

-- stores at the places of a permutation fill the start of the buffer
pub stored-permuted : (n : ℕ) (f v : ℕ → ℕ) (out : List ℕ) → Permutes n f → n ≤ length out
    → stored n f v out ≡ written n (λ k. v (inverse n f k)) out
stored-permuted n f v out P h =
    written_of n (λ k. v (inverse n f k)) 0 out (stored n f v out) h (length-stored n f v out)
    (λ i l.
    let j = inverse n f i in
    let e : f j ≡ i = after-inverse n f P i l in
    ap (λ (x : ℕ). get_or (stored n f v out) x 0) (sym e)
    ∙ stored_at n f v out P.apart j (inverse-lt n f P i l) (omega arith))
    (λ i l. stored-off n f v out i (λ k b e. omega (arith, P.below k b)))

pub stored-written : (n : ℕ) (v : ℕ → ℕ) (out : List ℕ) → n ≤ length out → stored n (λ i. i) v out ≡ written n v out
stored-written n v out h =
    stored-permuted n (λ i. i) v out same h ∙ written-ext n (λ k. v (inverse n (λ i. i) k)) v out (λ k l. ap v (inverse-after n (λ i. i) same k l))
  where
    same : Permutes n (λ i. i)
    same = record { below = λ x l. l; apart = λ x y hx hy e. e }
