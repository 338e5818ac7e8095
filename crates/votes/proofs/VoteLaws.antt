-- A strict majority survives damage, one bit at a time, for any test of which item carries which bit. Only the bit's own items matter.
-- Assumes nothing.
use Rattle.std.proofs.Common.{◌≡◌, ℕ, zero, suc, ◌+◌, ◌-◌, ◌*◌, ◌<◌, ◌≤◌, Bool, true, false, cond, ◌&&◌, T, eqb, ltb, List, get_or, drop, sym, refl, ap, ◌∙◌, ap₂, arith, get_or-drop, le-ltb, lt-ltb, eq-eqb, ne_eqb}
use mathlib.Core.Bool.{and-false}
use Rattle.bits.specs.Sums.{count}
use Rattle.bits.proofs.RangeLaws.{agree₂}
use Rattle.bits.proofs.SumLaws.{sum-ext, count-ext, count-append, count-three, count-and-le, count-and-none}
use Rattle.votes.specs.Votes.{wrong_item, lost_item, copies, votes, wrong_copies, lost_copies, majority, decided}

-- ---- one item: c says that it carries the bit v, sent as s and received as x

-- a copy holds the bit sent, or a wrong one, or is lost
one_of : (c : Bool) (v s x : ℕ) → v < 2 → (T c → s ≡ v) → (T c → x < 3)
    → cond (c && eqb x v) 1 0 + cond (c && wrong_item s x) 1 0 + cond (c && lost_item x) 1 0 ≡ cond c 1 0
one_of false v s x h e l = refl
one_of true v s x h e l =
    rw (e tt) (agree₂ 2 3 (λ v x. cond (eqb x v) 1 0 + cond (wrong_item v x) 1 0 + cond (lost_item x) 1 0) (λ v x. 1) tt v x h (l tt))

-- a wrong bit is the other bit
other : (c : Bool) (v s x : ℕ) → v < 2 → (T c → s ≡ v) → (T c → x < 3) → ◌≡◌ {A = ℕ} (cond (c && eqb x (1 - v)) 1 0) (cond (c && wrong_item s x) 1 0)
other false v s x h e l = refl
other true v s x h e l = rw (e tt) (agree₂ 2 3 (λ v x. cond (eqb x (1 - v)) 1 0) (λ v x. cond (wrong_item v x) 1 0) tt v x h (l tt))

-- an item as sent is not wrong, and a bit is not lost
pub right-item : (s : ℕ) → wrong_item s s ≡ false
right-item s = rw (eq-eqb s s refl) (and-false (ltb s 2))

pub bit-item : (s : ℕ) → s < 2 → lost_item s ≡ false
bit-item s h = ne_eqb s 2 (λ e. omega arith)

-- the larger number of votes decides
larger : (v : ℕ) (f : ℕ → ℕ) → v < 2 → f (1 - v) < f v → majority (f 0) (f 1) ≡ v
unfolding majority
larger zero f h l = rw (lt-ltb (f 1) (f 0) l)
larger (suc zero) f h l = rw (le-ltb (f 1) (f 0) (omega arith), lt-ltb (f 0) (f 1) l)
larger (suc (suc v)) f h l = absurd (omega arith)

-- ---- the law of the majority

module _ (N : ℕ) (on : ℕ → ℕ → Bool) (sent items : List ℕ) (b v : ℕ) (bit : v < 2)
    (same : (n : ℕ) → n < N → T (on n b) → get_or sent n 0 ≡ v) (legal : (n : ℕ) → n < N → T (on n b) → get_or items n 0 < 3) where
  all-copies : votes N on items b v + wrong_copies N on sent items b + lost_copies N on items b ≡ copies N on b
  unfolding votes wrong_copies lost_copies copies
  all-copies = count-three N _ _ _ _ (λ n h. one_of (on n b) v (get_or sent n 0) (get_or items n 0) bit (same n h) (legal n h))

  other-votes : votes N on items b (1 - v) ≡ wrong_copies N on sent items b
  unfolding votes wrong_copies count
  other-votes = sum-ext N _ _ (λ n h. other (on n b) v (get_or sent n 0) (get_or items n 0) bit (same n h) (legal n h))

  -- a bit with twice its wrong copies and its lost copies below its copies is decided as sent
  pub decided-as-sent : 2 * wrong_copies N on sent items b + lost_copies N on items b < copies N on b → decided N on items b ≡ v
  unfolding decided
  decided-as-sent h = larger v (votes N on items b) bit (omega (arith, all-copies, other-votes))

-- an undamaged bit with a copy is decided as sent
pub undamaged : (N : ℕ) (on : ℕ → ℕ → Bool) (items : List ℕ) (b v : ℕ) → v < 2 → ((n : ℕ) → n < N → T (on n b) → get_or items n 0 ≡ v)
    → 0 < copies N on b → decided N on items b ≡ v
unfolding wrong_copies lost_copies
undamaged N on items b v bit same some =
    decided-as-sent N on items items b v bit same (λ n h t. omega (arith, same n h t)) (omega (arith, none-wrong, none-lost))
  where
    none-wrong : wrong_copies N on items items b ≡ 0
    none-wrong = count-and-none N (λ n. on n b) (λ n. wrong_item (get_or items n 0) (get_or items n 0)) (λ n h t. right-item (get_or items n 0))

    none-lost : lost_copies N on items b ≡ 0
    none-lost = count-and-none N (λ n. on n b) (λ n. lost_item (get_or items n 0)) (λ n h t. bit-item (get_or items n 0) (omega (arith, same n h t)))

-- a bit whose copies are all lost has no majority
pub all-lost : (N : ℕ) (on : ℕ → ℕ → Bool) (items : List ℕ) (b : ℕ) → ((n : ℕ) → n < N → T (on n b) → get_or items n 0 ≡ 2) → decided N on items b ≡ 2
unfolding decided majority votes
all-lost N on items b gone = rw (none 0 (λ e. omega arith), none 1 (λ e. omega arith))
  where
    none : (v : ℕ) → (2 ≡ v → ⊥) → count N (λ n. on n b && eqb (get_or items n 0) v) ≡ 0
    none v d = count-and-none N (λ n. on n b) (λ n. eqb (get_or items n 0) v) (λ n h t. ne_eqb (get_or items n 0) v (λ e. d (sym (gone n h t) ∙ e)))

-- ---- parts and other items

-- a bit's decision hangs on its own items alone
pub own-items : (N : ℕ) (on : ℕ → ℕ → Bool) (items other : List ℕ) (b : ℕ) → ((n : ℕ) → n < N → T (on n b) → get_or items n 0 ≡ get_or other n 0)
    → decided N on items b ≡ decided N on other b
unfolding decided votes
own-items N on items other b same = ap₂ majority (side 0) (side 1)
  where
    at : (c : Bool) (x y v : ℕ) → (T c → x ≡ y) → (c && eqb x v) ≡ (c && eqb y v)
    at true x y v e = ap (λ (z : ℕ). eqb z v) (e tt)
    at false x y v e = refl

    side : (v : ℕ) → count N (λ n. on n b && eqb (get_or items n 0) v) ≡ count N (λ n. on n b && eqb (get_or other n 0) v)
    side v = count-ext N _ _ (λ n h. at (on n b) (get_or items n 0) (get_or other n 0) v (same n h))

-- votes of the same items, carried alike
pub votes-ext : (n : ℕ) (on on' : ℕ → ℕ → Bool) (items items' : List ℕ) (b v : ℕ) → ((j : ℕ) → j < n → on j b ≡ on' j b)
    → ((j : ℕ) → j < n → get_or items j 0 ≡ get_or items' j 0) → votes n on items b v ≡ votes n on' items' b v
unfolding votes
votes-ext n on on' items items' b v same alike =
    count-ext n _ _ (λ j h. ap₂ (λ (c : Bool) (x : ℕ). c && eqb x v) (same j h) (alike j h))

-- a bit has at most as many votes as copies
pub votes-le : (N : ℕ) (on : ℕ → ℕ → Bool) (items : List ℕ) (b v : ℕ) → votes N on items b v ≤ copies N on b
unfolding votes copies
votes-le N on items b v = count-and-le N (λ n. on n b) (λ n. eqb (get_or items n 0) v)

-- the votes of the first n items, and of the m after them
pub votes-append : (n m : ℕ) (on part : ℕ → ℕ → Bool) (items : List ℕ) (b v : ℕ) → ((j : ℕ) → j < m → part j b ≡ on (n + j) b)
    → votes (n + m) on items b v ≡ votes n on items b v + votes m part (drop n items) b v
unfolding votes
votes-append n m on part items b v same =
    count-append n m (λ k. on k b && eqb (get_or items k 0) v)
    ∙ ap (λ (c : ℕ). count n (λ k. on k b && eqb (get_or items k 0) v) + c)
    (count-ext m _ _ (λ j h. ap₂ (λ (c : Bool) (x : ℕ). c && eqb x v) (sym (same j h)) (sym (get_or-drop n items j 0))))
