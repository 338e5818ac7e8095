-- The pair interleaver takes every place once, shown once over size and table. Assumes nothing.
use mathlib.Core.Path.{◌≡◌, sym, ap, ◌∙◌, subst}
use mathlib.Core.Bool.{Bool, true, false, not, ◌||◌}
use mathlib.Core.List.{List, [], ◌∷◌}
use Prim.Native.Nat.{ℕ, ◌+◌, ◌-◌, ◌*◌, ◌/◌, ◌%◌, ◌<◌, ◌≤◌, ◌∣◌}
use native.Mathlib.Nat.{mod-lt, mod-mod_of_dvd, dvd-mul_left, add-mul-mod_self_right, div-add-mod', div-mul-le_self}
use native.Mathlib.Omega.{arith}
use lib.Dec.{T, eqb, eqb→eq, eqb_refl, ltb, ltb→lt, leb, leb→le}
use lib.ListN.{length, get_or}
use Rattle.bits.specs.Ranges.{all_below}
use Rattle.bits.specs.Permutations.{Permutes}
use Rattle.bits.proofs.NumberLaws.{lt-cases, mod-near}
use Rattle.bits.proofs.RangeLaws.{at-each₂, at_each, agree, under}
use Rattle.card.specs.Modes.{block_bytes}
use Rattle.constituent.specs.Pairs.{pair_count}
use Rattle.pair_interleaver.specs.Interleave.{starts, source_pair_by, Interleaver, source_pair}

module _ (l : ℕ) (s : List ℕ) (I : Interleaver l s) where
  -- the entry of the column of x, and what is reduced mod l
  entry : ℕ → ℕ
  entry x = get_or s (x % length s) 0

  whole_sum : ℕ → ℕ
  whole_sum x = entry x + l - x / length s * length s

  sum_back : (x : ℕ) → x < l → whole_sum x + x / length s * length s ≡ entry x + l
  unfolding whole_sum
  sum_back x h = omega (arith, div-mul-le_self x (length s))

  residue : (x : ℕ) → x < l → source_pair_by l s x % length s ≡ entry x % length s
  unfolding source_pair_by entry whole_sum
  residue x h =
      mod-mod_of_dvd (length s) (whole_sum x) (subst (λ (m : ℕ). length s ∣ m) I.whole (dvd-mul_left (length s) (l / length s)))
      ∙ sym (add-mul-mod_self_right (whole_sum x) (x / length s) (length s))
      ∙ ap (λ (m : ℕ). m % length s) (sum_back x h ∙ ap (λ (m : ℕ). entry x + m) (sym I.whole))
      ∙ add-mul-mod_self_right (entry x) (l / length s) (length s)

  same-column : (x y : ℕ) → x < l → y < l → source_pair_by l s x ≡ source_pair_by l s y → x % length s ≡ y % length s
  unfolding entry
  same-column x y hx hy e =
      I.differ (x % length s) (y % length s) (mod-lt x I.some) (mod-lt y I.some)
      (sym (residue x hx) ∙ ap (λ (m : ℕ). m % length s) e ∙ residue y hy)

  -- of two places with one image the lower row is not lower
  ordered : (x y : ℕ) → x < l → y < l → x / length s * length s ≤ y / length s * length s → source_pair_by l s x ≡ source_pair_by l s y → x ≡ y
  unfolding source_pair_by entry whole_sum
  ordered x y hx hy le e =
      let c : x % length s ≡ y % length s = same-column x y hx hy e in
      let a : entry x ≡ entry y = ap (λ (m : ℕ). get_or s m 0) c in
      let d : ℕ = y / length s * length s - x / length s * length s in
      let far : whole_sum y + d ≡ whole_sum x = omega (arith, sum_back x hx, sum_back y hy) in
      let z : d ≡ 0 = mod-near l (whole_sum y) d (omega (arith, div-mul-le_self y (length s))) (ap (λ (m : ℕ). m % l) far ∙ e) in
      omega (arith, div-add-mod' x (length s), div-add-mod' y (length s))

  -- I takes each place below l once
  pub permutes : Permutes l (source_pair_by l s)
  unfolding source_pair_by
  permutes =
      record {
        below = λ x h. mod-lt _ (omega arith);
        apart = λ x y hx hy e.
            lt-cases (y / length s * length s) (x / length s * length s)
            (λ h. sym (ordered y x hy hx (omega arith) (sym e))) (λ h. ordered x y hx hy h e);
      }

-- ---- the tables

-- the residues of a table differ, as a test, and what it tests
abbrev differs : List ℕ → Bool
differs s = all_below (length s) (λ i. all_below (length s) (λ j. not (eqb (get_or s i 0 % length s) (get_or s j 0 % length s)) || eqb i j))

differ-by : (s : List ℕ) → T (differs s) → (i j : ℕ) → i < length s → j < length s → get_or s i 0 % length s ≡ get_or s j 0 % length s → i ≡ j
differ-by s t i j hi hj e =
    eqb→eq i j (implied (eqb (get_or s i 0 % length s) (get_or s j 0 % length s)) (eqb i j)
    (at-each₂ (length s) (length s) (λ i j. not (eqb (get_or s i 0 % length s) (get_or s j 0 % length s)) || eqb i j) t i j hi hj)
    (subst (λ (m : ℕ). T (eqb (get_or s i 0 % length s) m)) e (eqb_refl (get_or s i 0 % length s))))
  where
    implied : (a b : Bool) → T (not a || b) → T a → T b
    implied true b t u = t
    implied false b t u = absurd u

-- each kind's table is one, computed
pub table : (kind : ℕ) → kind < 5 → Interleaver (pair_count kind) (starts kind)
table kind h =
    record {
      some = ltb→lt 0 (length (starts kind)) (at_each 5 (λ k. ltb 0 (length (starts k))) tt kind h);
      whole = agree 5 (λ k. pair_count k / length (starts k) * length (starts k)) pair_count tt kind h;
      below = λ i l.
          under (length (starts kind)) (pair_count kind) (λ i. get_or (starts kind) i 0)
          (at_each 5 (λ k. all_below (length (starts k)) (λ i. ltb (get_or (starts k) i 0) (pair_count k))) tt kind h) i l;
      differ = differ-by (starts kind) (at_each 5 (λ k. differs (starts k)) tt kind h);
    }

-- N at each kind, as Table 3 of 000 gives it
pub widths : (kind : ℕ) → kind < 5 → length (starts kind) ≡ get_or (8 ∷ 18 ∷ 34 ∷ 33 ∷ 40 ∷ []) kind 0
widths = agree 5 (λ k. length (starts k)) (λ k. get_or (8 ∷ 18 ∷ 34 ∷ 33 ∷ 40 ∷ []) k 0) tt

-- the residues S mod N differ, at every kind
pub residues-differ : (kind : ℕ) → kind < 5 → (i j : ℕ) → i < length (starts kind) → j < length (starts kind)
    → get_or (starts kind) i 0 % length (starts kind) ≡ get_or (starts kind) j 0 % length (starts kind) → i ≡ j
residues-differ kind h = (table kind h).differ

-- I takes each place below L once, at every kind
pub source-pair-permutes : (kind : ℕ) → kind < 5 → Permutes (pair_count kind) (source_pair kind)
unfolding source_pair
source-pair-permutes kind h = permutes (pair_count kind) (starts kind) (table kind h)

pub few-columns : (kind : ℕ) → kind < 5 → length (starts kind) ≤ 40
few-columns kind h = leb→le (length (starts kind)) 40 (at_each 5 (λ k. leb (length (starts k)) 40) tt kind h)

pub starts-below : (kind : ℕ) → kind < 5 → (k : ℕ) → k < length (starts kind) → get_or (starts kind) k 0 < 2080
starts-below kind h k l = omega (arith, (table kind h).below k l, under 5 2081 pair_count tt kind h)

-- a block's bytes fill whole rows, four at a time
pub whole-rows : (kind : ℕ) → kind < 5 → block_bytes kind / length (starts kind) * length (starts kind) ≡ block_bytes kind
whole-rows = agree 5 (λ k. block_bytes k / length (starts k) * length (starts k)) block_bytes tt
