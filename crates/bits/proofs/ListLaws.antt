-- Laws of lists given by an index function, of buffers written from the front, and of searches. Assumes nothing.
use mathlib.Core.Path.{◌≡◌, refl, sym, ap, ◌∙◌}
use mathlib.Core.Bool.{Bool, true, false, cond, true≢false}
use mathlib.Core.List.{List, [], ◌∷◌, ◌++◌, append_assoc, append-nil}
use mathlib.Core.Logic.{◌⊎◌, inl, inr}
use Prim.Native.Nat.{ℕ, zero, suc, ◌+◌, ◌-◌, ◌≤◌, ◌<◌}
use native.Mathlib.Nat.{add-zero, add-suc, eq-or-lt_of_le, le_of_suc-le-suc, not-suc-le-zero, le_of_eq}
use native.Mathlib.Numerals.{add-one}
use native.Mathlib.Omega.{arith}
use lib.Dec.{ltb}
use lib.ListN.{length, get_or, take, drop, set, replicate, length-replicate, get_or-replicate, length-append, length-take, length-drop, get_or-append, drop_of_length-le}
use lib.Seq.{ext_get_or, drop-cons, set_at, get_or_at, take_at, drop_at, drop-drop, get_or-append-add, get_or-take, get_or-drop}
use borrow.Author.Tests.{lt-ltb, le-ltb, ltb-false}
use borrow.Author.Rules.{part_to_end}
use borrow.Rule.Slice.PartMut.{put_mid}
use Rattle.std.proofs.lemmas.List.{places}
use Rattle.bits.specs.Lists.{tabulate, written, lowest, first_above}
use Rattle.bits.proofs.NumberLaws.{lt-cases}

module _ {A : Type 0} where
  pub length-tabulate : (n : ℕ) (f : ℕ → A) → length (tabulate n f) ≡ n
  unfolding tabulate
  length-tabulate zero f = refl
  length-tabulate (suc n) f = simp length-append (rw (length-tabulate n f) (add-one n))

  pub get_or-tabulate : (n : ℕ) (f : ℕ → A) (i : ℕ) (d : A) → i < n → get_or (tabulate n f) i d ≡ f i
  unfolding tabulate
  get_or-tabulate zero f i d h = absurd (not-suc-le-zero h)
  get_or-tabulate (suc n) f i d h = go (eq-or-lt_of_le (le_of_suc-le-suc h)) (get_or-tabulate n f i d)
    where
      go : (i ≡ n) ⊎ (i < n) → (i < n → get_or (tabulate n f) i d ≡ f i) → get_or (tabulate n f ++ (f n ∷ [])) i d ≡ f i
      go (inl e) ih = rw e (get_or_at (tabulate n f) (f n) [] d n (length-tabulate n f))
      go (inr l) ih = get_or-append (tabulate n f) (f n ∷ []) d i (rw (length-tabulate n f) l) ∙ ih l

  -- a list that has n elements, each as f gives it, is f's
  pub tabulate-of : (n : ℕ) (f : ℕ → A) (d : A) (xs : List A) → length xs ≡ n → ((i : ℕ) → i < n → get_or xs i d ≡ f i) → xs ≡ tabulate n f
  tabulate-of n f d xs l h =
      ext_get_or d xs (tabulate n f) (l ∙ sym (length-tabulate n f)) (λ i b. let c : i < n = omega arith in h i c ∙ sym (get_or-tabulate n f i d c))

  -- the same elements give the same list
  pub tabulate-ext : (n : ℕ) (f g : ℕ → A) → ((i : ℕ) → i < n → f i ≡ g i) → tabulate n f ≡ tabulate n g
  unfolding tabulate
  tabulate-ext zero f g h = refl
  tabulate-ext (suc n) f g h = rw (tabulate-ext n f g (λ i l. h i (omega arith)), h n (omega arith))

  -- the first n elements, and the m after them
  pub tabulate-append : (n m : ℕ) (f : ℕ → A) → tabulate (n + m) f ≡ tabulate n f ++ tabulate m (λ k. f (n + k))
  unfolding tabulate
  tabulate-append n zero f = rw add-zero (sym (append-nil (tabulate n f)))
  tabulate-append n (suc m) f = rw (add-suc, tabulate-append n m f) (append_assoc (tabulate n f) (tabulate m (λ k. f (n + k))) (f (n + m) ∷ []))

  pub tabulate-list : (d : A) (xs : List A) → tabulate (length xs) (λ k. get_or xs k d) ≡ xs
  tabulate-list d xs = sym (tabulate-of (length xs) (λ k. get_or xs k d) d xs refl (λ i h. refl))

  -- nothing is written yet
  pub written_none : (f : ℕ → A) (out : List A) → out ≡ written 0 f out
  unfolding written tabulate
  written_none f out = refl

  pub length-written : (n : ℕ) (f : ℕ → A) (out : List A) → n ≤ length out → length (written n f out) ≡ length out
  unfolding written
  length-written n f out h = simp (length-append, length-tabulate, length-drop) (omega arith)

  -- what stands at a place that is written, and at one that is kept
  pub get_or-written : (n : ℕ) (f : ℕ → A) (out : List A) (i : ℕ) (d : A) → i < n → get_or (written n f out) i d ≡ f i
  unfolding written
  get_or-written n f out i d h =
      get_or-append (tabulate n f) (drop n out) d i (rw (length-tabulate n f) h) ∙ get_or-tabulate n f i d h

  pub get_or-kept : (n : ℕ) (f : ℕ → A) (out : List A) (i : ℕ) (d : A) → n ≤ i → get_or (written n f out) i d ≡ get_or out i d
  unfolding written
  get_or-kept n f out i d h =
      let e : length (tabulate n f) + (i - n) ≡ i = omega (arith, length-tabulate n f) in
      let z : n + (i - n) ≡ i = omega arith in
      ap (λ (k : ℕ). get_or (tabulate n f ++ drop n out) k d) (sym e) ∙ get_or-append-add (tabulate n f) (drop n out) (i - n) d
      ∙ get_or-drop n out (i - n) d ∙ ap (λ (k : ℕ). get_or out k d) z

  -- the part of a buffer that is written
  pub take-written : (n : ℕ) (f : ℕ → A) (out : List A) → take n (written n f out) ≡ tabulate n f
  unfolding written
  take-written n f out = take_at (tabulate n f) (drop n out) n (length-tabulate n f)

  -- a list that has f's elements below n and the old ones from n on
  pub written_of : (n : ℕ) (f : ℕ → A) (d : A) (out now : List A) → n ≤ length out → length now ≡ length out
      → ((i : ℕ) → i < n → get_or now i d ≡ f i) → ((i : ℕ) → n ≤ i → get_or now i d ≡ get_or out i d) → now ≡ written n f out
  written_of n f d out now h l low high =
      ext_get_or d now (written n f out) (l ∙ sym (length-written n f out h)) (λ i b.
      lt-cases i n (λ c. low i c ∙ sym (get_or-written n f out i d c)) (λ c. high i c ∙ sym (get_or-kept n f out i d c)))

  -- a list that has f's elements below n already
  pub written_same : (n : ℕ) (f : ℕ → A) (d : A) (out : List A) → n ≤ length out → ((i : ℕ) → i < n → get_or out i d ≡ f i) → out ≡ written n f out
  written_same n f d out h low = written_of n f d out out h refl low (λ i l. refl)

  -- what was written below m is written over
  pub written_over : (n m : ℕ) (f g : ℕ → A) (out : List A) → n ≤ m → written m f (written n g out) ≡ written m f out
  unfolding written
  written_over n m f g out h =
      let e : n + (m - n) ≡ m = omega arith in
      ap (λ (l : List A). tabulate m f ++ l)
      (ap (λ (k : ℕ). drop k (tabulate n g ++ drop n out)) (sym e) ∙ sym (drop-drop (m - n) n (tabulate n g ++ drop n out))
      ∙ ap (drop (m - n)) (drop_at (tabulate n g) (drop n out) n (length-tabulate n g)) ∙ drop-drop (m - n) n out
      ∙ ap (λ (k : ℕ). drop k out) e)

  -- the first m of n written elements are written again
  pub written-again : (m n : ℕ) (f g h : ℕ → A) (d : A) (out : List A) → m ≤ n → n ≤ length out → ((i : ℕ) → i < m → g i ≡ h i)
      → ((i : ℕ) → m ≤ i → i < n → f i ≡ h i) → written m g (written n f out) ≡ written n h out
  written-again m n f g h d out l r low high =
      written_of n h d out (written m g (written n f out)) r
      (length-written m g (written n f out) (omega (arith, length-written n f out r)) ∙ length-written n f out r)
      (λ i b.
      lt-cases i m
      (λ c. get_or-written m g (written n f out) i d c ∙ low i c)
      (λ c. get_or-kept m g (written n f out) i d c ∙ get_or-written n f out i d b ∙ high i c b))
      (λ i b. get_or-kept m g (written n f out) i d (omega arith) ∙ get_or-kept n f out i d b)

  -- a loop's turn: the value that belongs at n is stored there
  pub written_next : (n : ℕ) (v : A) (f : ℕ → A) (out now : List A) → now ≡ written n f out → n < length out → v ≡ f n → set now n v ≡ written (n + 1) f out
  unfolding written tabulate
  written_next n v f out now e h g =
      rw (add-one, e, g)
      (ap (λ (l : List A). set (tabulate n f ++ l) n (f n)) (drop-cons out n v h)
      ∙ set_at (tabulate n f) (get_or out n v) (drop (suc n) out) (f n) n (length-tabulate n f)
      ∙ sym (append_assoc (tabulate n f) (f n ∷ []) (drop (suc n) out)))

  -- a loop's turn that stores two values, one after the other
  pub written-two : (n : ℕ) (v w : A) (f : ℕ → A) (out now : List A) → now ≡ written n f out → n + 1 < length out → v ≡ f n → w ≡ f (n + 1)
      → set (set now n v) (n + 1) w ≡ written (n + 2) f out
  written-two n v w f out now e h g k =
      let q : n + 1 + 1 ≡ n + 2 = omega arith in
      written_next (n + 1) w f out (set now n v) (written_next n v f out now e (omega arith) g) h k ∙ ap (λ (m : ℕ). written m f out) q

  -- a loop's turn that writes m elements through the part from n on, which is then put back
  pub written-part : (n m : ℕ) (f g : ℕ → A) (out now part : List A) → now ≡ written n f out → ((j : ℕ) → j < m → g j ≡ f (n + j))
      → part ≡ written m g (take (length now - n) (drop n now)) → take n now ++ (part ++ drop (length now - n) (drop n now)) ≡ written (n + m) f out
  unfolding written
  written-part n m f g out now part e same p =
      rw (p, part_to_end now n, none, append-nil, e, front, back, drop-drop m n out, tabulate-ext m g (λ k. f (n + k)) same, tabulate-append n m f)
      (sym (append_assoc (tabulate n f) (tabulate m (λ k. f (n + k))) (drop (n + m) out)))
    where
      none : drop (length now - n) (drop n now) ≡ []
      none = drop_of_length-le (drop n now) (le_of_eq (length-drop n now))

      front : take n (tabulate n f ++ drop n out) ≡ tabulate n f
      front = take-written n f out

      back : drop n (tabulate n f ++ drop n out) ≡ drop n out
      back = drop_at (tabulate n f) (drop n out) n (length-tabulate n f)

  -- a loop's turn that writes m elements through the part from n on: f's elements are one part more, and those after it are kept
  pub part-more : (n m : ℕ) (was part : List A) (f : ℕ → A) (d : A) → n + m ≤ length was → length part ≡ m
      → ((i : ℕ) → i < n → get_or was i d ≡ f i) → ((j : ℕ) → j < m → get_or part j d ≡ f (n + j))
      → (i : ℕ) → i < n + m → get_or (put_mid n m was part) i d ≡ f i
  part-more n m was part f d h l before here i b =
      lt-cases i n
      (λ c. let e : get_or (put_mid n m was part) i d ≡ get_or was i d = grind (arith, places) in e ∙ before i c)
      (λ c.
      let q : n + (i - n) ≡ i = omega arith in
      let e : get_or (put_mid n m was part) (n + (i - n)) d ≡ get_or part (i - n) d = grind (arith, places) in
      rw q at (e ∙ here (i - n) (omega arith)))

  pub part-kept : (n m : ℕ) (was part : List A) (d : A) → n + m ≤ length was → length part ≡ m
      → (i : ℕ) → n + m ≤ i → get_or (put_mid n m was part) i d ≡ get_or was i d
  part-kept n m was part d h l i b = grind (arith, places)

  -- a loop's end
  pub written_all : (n m : ℕ) (f : ℕ → A) (out now : List A) → now ≡ written n f out → n ≡ m → now ≡ written m f out
  written_all n m f out now e g = rw (← g) e

  -- the same elements are written
  pub written-ext : (n : ℕ) (f g : ℕ → A) (out : List A) → ((i : ℕ) → i < n → f i ≡ g i) → written n f out ≡ written n g out
  unfolding written
  written-ext n f g out h = ap (λ (l : List A). l ++ drop n out) (tabulate-ext n f g h)

  -- a loop's end, at a buffer that is written whole
  pub written-whole : (n m : ℕ) (f : ℕ → A) (out now : List A) → now ≡ written n f out → n ≡ m → length out ≡ m → now ≡ tabulate m f
  unfolding written
  written-whole n m f out now e g h = e ∙ rw (g, drop_of_length-le out (le_of_eq h)) (append-nil (tabulate m f))

  -- a loop's end, where a list is put at the start of a buffer element by element
  pub written-put : (n : ℕ) (d : A) (xs out now : List A) → now ≡ written n (λ k. get_or xs k d) out → n ≡ length xs → now ≡ xs ++ drop (length xs) out
  unfolding written
  written-put n d xs out now e g = e ∙ rw (g, tabulate-list d xs)

  -- one value, written n times
  pub written-fill : (n : ℕ) (v : A) (out part : List A) → part ≡ replicate n v → part ++ drop n out ≡ written n (λ _. v) out
  unfolding written
  written-fill n v out part e =
      ap (λ (l : List A). l ++ drop n out) (e ∙ tabulate-of n (λ _. v) v (replicate n v) (length-replicate n v) (λ i h. get_or-replicate n i v v h))

  -- a list put at the start of a buffer
  pub written-list : (n : ℕ) (f : ℕ → A) (xs out : List A) → xs ≡ tabulate n f → xs ++ drop (length xs) out ≡ written n f out
  unfolding written
  written-list n f xs out e = rw (e, length-tabulate)

  -- a part of a list put at the start of a buffer
  pub written-slice : (d : A) (xs out : List A) (at end from n : ℕ) → at ≡ from → end ≡ at + n → end ≤ length xs
      → take (end - at) (drop at xs) ++ drop (length (take (end - at) (drop at xs))) out ≡ written n (λ k. get_or xs (from + k) d) out
  written-slice d xs out at end from n f e h =
      let few : end - at ≡ n = omega arith in
      rw (few, f)
      (written-list n _ (take n (drop from xs)) out
      (tabulate-of n _ d (take n (drop from xs)) (simp (length-take, length-drop) (omega arith))
      (λ i l. get_or-take n (drop from xs) i d l ∙ get_or-drop from xs i d)))

  -- two elements stored at the start of a buffer
  pub set-two : (a b : A) (xs : List A) → 2 ≤ length xs → set (set xs 0 a) 1 b ≡ a ∷ b ∷ drop 2 xs
  set-two a b [] h = absurd (omega arith)
  set-two a b (x ∷ []) h = absurd (omega arith)
  set-two a b (x ∷ y ∷ xs) h = refl

-- ---- the lowest number at which a test holds

pub lowest-here : (n : ℕ) (t : ℕ → Bool) (i : ℕ) → i < n → ((k : ℕ) → k < i → t k ≡ false) → t i ≡ true → lowest n t ≡ i
unfolding lowest
lowest-here zero t i h none e = absurd (not-suc-le-zero h)
lowest-here (suc n) t zero h none e = rw e
lowest-here (suc n) t (suc i) h none e =
    rw (none zero (omega arith)) (ap suc (lowest-here n (λ k. t (suc k)) i (le_of_suc-le-suc h) (λ k l. none (suc k) (omega arith)) e))

pub lowest-none : (n : ℕ) (t : ℕ → Bool) → ((k : ℕ) → k < n → t k ≡ false) → lowest n t ≡ n
unfolding lowest
lowest-none zero t none = refl
lowest-none (suc n) t none = rw (none zero (omega arith)) (ap suc (lowest-none n (λ k. t (suc k)) (λ k l. none (suc k) (omega arith))))

-- below the lowest the test fails, at it the test holds, and it is at most n
pub lowest-below : (n : ℕ) (t : ℕ → Bool) (k : ℕ) → k < lowest n t → t k ≡ false
unfolding lowest
lowest-below zero t k h = absurd (not-suc-le-zero h)
lowest-below (suc n) t k h = go (t zero) refl k h (lowest-below n (λ j. t (suc j)))
  where
    go : (b : Bool) → t zero ≡ b → (k : ℕ) → k < cond b zero (suc (lowest n (λ j. t (suc j))))
        → ((j : ℕ) → j < lowest n (λ j. t (suc j)) → t (suc j) ≡ false) → t k ≡ false
    go true e k l ih = absurd (not-suc-le-zero l)
    go false e zero l ih = e
    go false e (suc k) l ih = ih k (le_of_suc-le-suc l)

pub lowest-at : (n : ℕ) (t : ℕ → Bool) → lowest n t < n → t (lowest n t) ≡ true
unfolding lowest
lowest-at zero t h = absurd (not-suc-le-zero h)
lowest-at (suc n) t h = go (t zero) refl h (lowest-at n (λ j. t (suc j)))
  where
    go : (b : Bool) → t zero ≡ b → cond b zero (suc (lowest n (λ j. t (suc j)))) < suc n
        → (lowest n (λ j. t (suc j)) < n → t (suc (lowest n (λ j. t (suc j)))) ≡ true) → t (cond b zero (suc (lowest n (λ j. t (suc j))))) ≡ true
    go true e l ih = e
    go false e l ih = ih (le_of_suc-le-suc l)

pub lowest-le : (n : ℕ) (t : ℕ → Bool) → lowest n t ≤ n
unfolding lowest
lowest-le zero t = omega arith
lowest-le (suc n) t = go (t zero) (lowest-le n (λ j. t (suc j)))
  where
    go : (b : Bool) → lowest n (λ j. t (suc j)) ≤ n → cond b zero (suc (lowest n (λ j. t (suc j)))) ≤ suc n
    go true ih = omega arith
    go false ih = omega arith

-- a search goes no further than to a number at which the test holds
pub lowest-up-to : (n : ℕ) (t : ℕ → Bool) (k : ℕ) → t k ≡ true → lowest n t ≤ k
lowest-up-to n t k e = lt-cases k (lowest n t) (λ l. absurd (true≢false (sym e ∙ lowest-below n t k l))) (λ l. l)

pub lowest-ext : (n : ℕ) (t u : ℕ → Bool) → ((k : ℕ) → k < n → t k ≡ u k) → lowest n t ≡ lowest n u
unfolding lowest
lowest-ext zero t u h = refl
lowest-ext (suc n) t u h = rw (h zero (omega arith), lowest-ext n (λ k. t (suc k)) (λ k. u (suc k)) (λ k l. h (suc k) (omega arith)))

-- a search from the front: there is nothing to search, the first element is above the limit, or it is not
pub first-of_none : (limit : ℕ) → first_above limit [] ≡ 0
unfolding first_above lowest
first-of_none limit = refl

pub first-hit : (limit x : ℕ) (xs : List ℕ) → limit < x → first_above limit (x ∷ xs) ≡ 0
unfolding first_above lowest
first-hit limit x xs h = rw (lt-ltb limit x h)

pub first-miss : (limit x : ℕ) (xs : List ℕ) → x ≤ limit → first_above limit (x ∷ xs) ≡ first_above limit xs + 1
unfolding first_above lowest
first-miss limit x xs h = rw (le-ltb limit x h) (sym (add-one _))

-- nothing is above the limit
pub first-none : (limit : ℕ) (xs : List ℕ) → ((k : ℕ) → k < length xs → get_or xs k 0 ≤ limit) → length xs ≡ first_above limit xs
unfolding first_above
first-none limit xs none = sym (lowest-none (length xs) (λ k. ltb limit (get_or xs k 0)) (λ k l. le-ltb limit (get_or xs k 0) (none k l)))

-- a search that found nothing: no element is above the limit
pub none_above : (limit : ℕ) (xs : List ℕ) → length xs ≤ first_above limit xs → (k : ℕ) → k < length xs → get_or xs k 0 ≤ limit
unfolding first_above
none_above limit xs h k l = ltb-false limit (get_or xs k 0) (lowest-below (length xs) (λ k. ltb limit (get_or xs k 0)) k (omega arith))

-- what is put over all of a list is all of it
pub put-whole : (src was now : List ℕ) → length was ≡ length src → now ≡ src ++ drop (length src) was → now ≡ src
put-whole src was now e is = is ∙ ap (λ (l : List ℕ). src ++ l) (drop_of_length-le was (le_of_eq e)) ∙ append-nil src
