-- Laws of the counters, for any number of them and any test of which item carries which bit: items more, two counts in a row, and the
-- majority that a counter tells. Assumes nothing.
use Rattle.std.proofs.Common.{◌≡◌, ℕ, ◌+◌, ◌*◌, ◌%◌, ◌<◌, ◌≤◌, Bool, true, false, cond, ◌&&◌, eqb, ltb, List, length, get_or, drop, set, sym, refl, ap, ◌∙◌, ap₂, add-zero, add_assoc, zero-add, arith, length-set, get_or-drop, get_or-set_other, get_or-set_same, ltb-false, ltb-true, le-ltb, lt-ltb, eqb-true}
use borrow.Author.Tests.{eqb-false}
use Rattle.bits.proofs.BoolLaws.{test-cases}
use Rattle.bits.proofs.ListLaws.{length-tabulate, get_or-tabulate, tabulate-of, tabulate-ext}
use Rattle.bits.proofs.SumLaws.{count_next, count_none}
use Rattle.votes.specs.Votes.{carries, votes, majority, decided}
use Rattle.votes.specs.Loops.Counters.{middle, after_item, counted, Adds}
use Rattle.votes.proofs.VoteLaws.{votes-ext, votes-append}

-- ---- items more

module _ (W n : ℕ) (onto : ℕ → ℕ → Bool) (items before : List ℕ) where
  pub adds_none : Adds W n 0 onto items before before
  adds_none on start same e = rw (add-zero n) e

  -- m items, and k after them
  pub adds-more : (m k : ℕ) (run : ℕ → ℕ → Bool) (now later : List ℕ) → Adds W n m onto items before now → Adds W (n + m) k run items now later
      → ((j q : ℕ) → j < k → run j q ≡ onto (m + j) q) → Adds W n (m + k) onto items before later
  adds-more m k run now later first second alike on start same e =
      rw (← add_assoc n m k)
      (second on start
      (λ j q l. ap (λ (i : ℕ). on i q) (add_assoc n m j) ∙ same (m + j) q (omega arith) ∙ sym (alike j q l))
      (first on start (λ j q l. same j q (omega arith)) e))

  -- a loop's end
  pub adds-all : (m k : ℕ) (now : List ℕ) → Adds W n m onto items before now → m ≡ k → Adds W n k onto items before now
  adds-all m k now h e = rw (← e) h

-- lanes that are the same carry the same bits
pub carries_same : (lane other : ℕ → ℕ) (j k : ℕ) → lane j ≡ other k → (q : ℕ) → carries lane j q ≡ carries other k q
unfolding carries
carries_same lane other j k e q = ap (λ (x : ℕ). eqb x q) e

votes-next : (on : ℕ → ℕ → Bool) (items : List ℕ) (n q v : ℕ)
    → votes (n + 1) on items q v ≡ votes n on items q v + cond (on n q && eqb (get_or items n 0) v) 1 0
unfolding votes
votes-next on items n q v = count_next n _

-- a counter after p ones and q zeros, and after a and b more
after_more : (s p q a b x v : ℕ) → x ≡ (s + p + 255 * q) % 256 → v ≡ (x + a + 255 * b) % 256 → v ≡ (s + (p + a) + 255 * (q + b)) % 256
after_more s p q a b x v e f = omega arith

-- ---- counters that counted n items

module _ (W n : ℕ) (on : ℕ → ℕ → Bool) (items start now : List ℕ) (e : now ≡ counted W n on items start) where
  pub counted-long : length now ≡ W
  unfolding counted
  counted-long = ap length e ∙ length-tabulate W _

  pub counter_at : (q : ℕ) → q < W → get_or now q 0 ≡ (get_or start q 0 + votes n on items q 1 + 255 * votes n on items q 0) % 256
  unfolding counted
  counter_at q l = rw e (get_or-tabulate W _ q 0 l)

-- one item, for the one bit that it carries
pub adds-item : (W n at v : ℕ) (items now : List ℕ) → v ≡ after_item (get_or now at 0) (get_or items n 0)
    → Adds W n 1 (carries (λ j. at)) items now (set now at v)
unfolding counted carries
adds-item W n at v items now f on start same e =
    tabulate-of W _ 0 (set now at v) (simp length-set long) (λ q l. test-cases (eqb at q) (here q l) (there q l))
  where
    long : length now ≡ W
    long = counted-long W n on items start now e

    rode : (q : ℕ) → on n q ≡ eqb at q
    rode q = rw (add-zero n) at (same 0 q (omega arith))

    here : (q : ℕ) → q < W → eqb at q ≡ true
        → get_or (set now at v) q 0 ≡ (get_or start q 0 + votes (n + 1) on items q 1 + 255 * votes (n + 1) on items q 0) % 256
    here q l t =
        let at-q : at ≡ q = eqb-true at q t in
        rw (votes-next on items n q 0, votes-next on items n q 1, rode q, t, at-q)
        (get_or-set_same now q v 0 (omega (arith, long)) ∙ after_more _ _ _ _ _ _ _ (counter_at W n on items start now e q l) (rw at-q at f))

    there : (q : ℕ) → q < W → eqb at q ≡ false
        → get_or (set now at v) q 0 ≡ (get_or start q 0 + votes (n + 1) on items q 1 + 255 * votes (n + 1) on items q 0) % 256
    there q l t =
        rw (votes-next on items n q 0, votes-next on items n q 1, rode q, t)
        (get_or-set_other now at q v 0 (λ s. eqb-false at q t (sym s)) ∙ omega (arith, counter_at W n on items start now e q l))

-- m items more, counted apart
pub counted-more : (W n m : ℕ) (on on' : ℕ → ℕ → Bool) (items part start now later : List ℕ)
    → now ≡ counted W n on items start → later ≡ counted W m on' part now
    → ((j : ℕ) → j < m → (q : ℕ) → q < W → on' j q ≡ on (n + j) q) → ((j : ℕ) → j < m → get_or part j 0 ≡ get_or items (n + j) 0)
    → later ≡ counted W (n + m) on items start
unfolding counted
counted-more W n m on on' items part start now later e f same alike =
    f ∙ tabulate-ext W _ _ (λ q l.
    rw (both q l 0, both q l 1) (after_more _ _ _ _ _ _ _ (counter_at W n on items start now e q l) refl))
  where
    both : (q : ℕ) → q < W → (v : ℕ) → votes (n + m) on items q v ≡ votes n on items q v + votes m on' part q v
    both q l v =
        votes-append n m on on' items q v (λ j h. same j h q l)
        ∙ ap (λ (c : ℕ). votes n on items q v + c)
        (votes-ext m on' on' (drop n items) part q v (λ j h. refl) (λ j h. get_or-drop n items j 0 ∙ sym (alike j h)))

-- ---- before any item

votes-none : (on : ℕ → ℕ → Bool) (items : List ℕ) (q v : ℕ) → votes 0 on items q v ≡ 0
unfolding votes
votes-none on items q v = count_none 0 _ (λ k l. absurd (omega arith))

-- counters of 8 bits have counted nothing
pub counted_none : (W : ℕ) (on : ℕ → ℕ → Bool) (items start : List ℕ) → length start ≡ W → ((q : ℕ) → q < W → get_or start q 0 < 256)
    → start ≡ counted W 0 on items start
unfolding counted
counted_none W on items start long bytes =
    tabulate-of W _ 0 start long (λ q l. rw (votes-none on items q 0, votes-none on items q 1) (omega (arith, bytes q l)))

pub middle-counted : (W : ℕ) (on : ℕ → ℕ → Bool) (items start : List ℕ) → length start ≡ W → ((q : ℕ) → q < W → get_or start q 0 ≡ middle)
    → start ≡ counted W 0 on items start
middle-counted W on items start long even = counted_none W on items start long (λ q l. omega (arith, even q l))

-- items that are counted from the first on
pub alone : (W m : ℕ) (onto : ℕ → ℕ → Bool) (items before after : List ℕ) → Adds W 0 m onto items before after → length before ≡ W
    → ((q : ℕ) → q < W → get_or before q 0 < 256) → after ≡ counted W m onto items before
alone W m onto items before after adds long bytes =
    rw (zero-add m) at
    (adds onto before (λ j q l. ap (λ (i : ℕ). onto i q) (zero-add j)) (counted_none W onto items before long bytes))

-- ---- what a counter tells

-- two tests of the same outcome
same_test : (a b c d : ℕ) → (a < b → c < d) → (b ≤ a → d ≤ c) → ltb a b ≡ ltb c d
same_test a b c d below above =
    test-cases (ltb a b) (λ e. e ∙ sym (lt-ltb c d (below (ltb-true a b e)))) (λ e. e ∙ sym (le-ltb c d (above (ltb-false a b e))))

-- a counter that started at m and had few votes did not wrap
unwrapped : (m zeros ones x : ℕ) → zeros ≤ m → m + ones < 256 → x ≡ (m + ones + 255 * zeros) % 256 → x + zeros ≡ m + ones
unwrapped m zeros ones x k l e = omega arith

-- so it tells the majority
pub majority-told : (m zeros ones x : ℕ) → zeros ≤ m → m + ones < 256 → x ≡ (m + ones + 255 * zeros) % 256
    → majority m x ≡ majority zeros ones
unfolding majority
majority-told m zeros ones x k l e =
    let told = unwrapped m zeros ones x k l e in
    ap₂ (λ (t u : Bool). cond t 0 (cond u 1 2))
    (same_test x m ones zeros (λ h. omega arith) (λ h. omega arith)) (same_test m x zeros ones (λ h. omega arith) (λ h. omega arith))

-- and a counter of a bit, from the middle, its decision
pub counter-decides : (W n : ℕ) (on : ℕ → ℕ → Bool) (items start now : List ℕ) → now ≡ counted W n on items start
    → (b : ℕ) → b < W → get_or start b 0 ≡ middle → votes n on items b 0 < middle → votes n on items b 1 < middle
    → majority middle (get_or now b 0) ≡ decided n on items b
unfolding decided
counter-decides W n on items start now e b l even zeros ones =
    majority-told middle _ _ _ (omega arith) (omega arith) (counter_at W n on items start now e b l ∙ rw even)
