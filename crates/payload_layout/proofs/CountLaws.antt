-- A coded bit has as many copies as there are copies, and one more where a pad repeats it: once over the copy count. Assumes nothing.
use mathlib.Core.Path.{◌≡◌, refl, sym, ap, ap₂, ◌∙◌}
use mathlib.Core.Bool.{Bool, cond, ◌&&◌}
use Prim.Native.Nat.{ℕ, zero, suc, ◌+◌, ◌-◌, ◌*◌, ◌/◌, ◌%◌, ◌<◌, ◌≤◌}
use native.Mathlib.Nat.{add-zero, add-suc, zero-add, zero-mul, suc-mul, mul_assoc, mul_left_comm}
use native.Mathlib.Omega.{arith}
use lib.Arith.{digits_div, digits_mod}
use lib.Dec.{ltb, eqb}
use borrow.Author.Tests.{lt-ltb, le-ltb, eq-eqb, ne_eqb}
use Rattle.bits.specs.Sums.{sum, count}
use Rattle.bits.proofs.NumberLaws.{lt-cases}
use Rattle.bits.proofs.SumLaws.{sum-ext, sum-zero, sum-append, sum_rows, one-le}
use Rattle.bits.proofs.PermutationLaws.{sum-permuted}
use Rattle.votes.specs.Votes.{copies}
use Rattle.payload_layout.specs.declared.Layout.{Layout}
use Rattle.payload_layout.specs.Layouts.{items, group_carriers, used_carriers, copy_carriers}
use Rattle.payload_layout.specs.Loops.Bounds.{Sound, Small}
use Rattle.payload_layout.specs.Items.{padded, copy_order, copied_bit, used, carried, carries}
use Rattle.payload_layout.proofs.OrderLaws.{copy-permutes}

-- 1 where a test holds
abbrev one : Bool → ℕ
one t = cond t 1 0

-- ---- how often b stands in a stretch

up_to : (b m : ℕ) → one (ltb b m) + one (eqb m b) ≡ one (ltb b (suc m))
up_to b m =
    lt-cases b m
    (λ l. rw (lt-ltb b m l, ne_eqb m b (λ e. omega arith), lt-ltb b (suc m) (omega arith)))
    (λ l.
    lt-cases m b
    (λ k. rw (le-ltb b m l, ne_eqb m b (λ e. omega arith), le-ltb b (suc m) (omega arith)))
    (λ k. rw (le-ltb b m l, eq-eqb m b (omega arith), lt-ltb b (suc m) (omega arith))))

stretch : (n c b : ℕ) → sum n (λ y. one (eqb (c + y) b)) + one (ltb b c) ≡ one (ltb b (c + n))
unfolding sum
stretch zero c b = rw (add-zero c) (omega arith)
stretch (suc n) c b = rw (add-suc c n) (omega (arith, stretch n c b, up_to b (c + n)))

-- the pads of m copies one after the other
pads : (pad b m : ℕ) → sum m (λ k. 1 + sum pad (λ y. one (eqb (k * pad + y) b))) ≡ m + one (ltb b (m * pad))
unfolding sum
pads pad b zero = rw (zero-mul pad, le-ltb b 0 (omega arith)) refl
pads pad b (suc m) = rw (suc-mul m pad) (omega (arith, pads pad b m, stretch pad (m * pad) b))

-- ---- the copies of a bit

module _ (L : Layout) (s : Sound L) (b : ℕ) (coded : b < L.coded) where
  -- in copy k, bit x of the padded data is b
  hit : ℕ → ℕ → ℕ
  hit k x = one (eqb (padded L k x) b)

  -- the bits of used carrier u that are b
  on_carrier : ℕ → ℕ
  on_carrier u = sum L.bits (λ e. one (eqb (copied_bit L u e) b))

  -- one copy
  in-data : (k : ℕ) → sum (L.coded + L.pad) (hit k) ≡ 1 + sum L.pad (λ y. one (eqb (k * L.pad + y) b))
  unfolding hit padded
  in-data k =
      sum-append L.coded L.pad (hit k)
      ∙ ap₂ ◌+◌
      (sum-ext L.coded (hit k) (λ x. one (eqb (0 + x) b)) (λ x l. rw (lt-ltb x L.coded l) (ap (λ (z : ℕ). one (eqb z b)) (sym (zero-add x)))) ∙ once)
      (sum-ext L.pad (λ y. hit k (L.coded + y)) (λ y. one (eqb (k * L.pad + y) b))
      (λ y l.
      let at : L.coded + y - L.coded ≡ y = omega arith in
      rw (le-ltb (L.coded + y) L.coded (omega arith)) (ap (λ (z : ℕ). one (eqb (k * L.pad + z) b)) at)))
    where
      once : sum L.coded (λ x. one (eqb (0 + x) b)) ≡ 1
      once =
          let t = stretch L.coded 0 b in
          let u = rw (le-ltb b 0 (omega arith), lt-ltb b (0 + L.coded) (omega arith)) at t in
          omega arith

  on-copy : (k q : ℕ) → q < copy_carriers L → on_carrier (k * copy_carriers L + q) ≡ sum L.bits (λ e. hit k (copy_order L k q * L.bits + e))
  unfolding on_carrier copied_bit hit
  on-copy k q h =
      ap₂ (λ (i j : ℕ). sum L.bits (λ e. one (eqb (padded L i (copy_order L i j * L.bits + e)) b))) (digits_div k h) (digits_mod k h)

  one-copy : (k : ℕ) → sum (copy_carriers L) (λ q. on_carrier (k * copy_carriers L + q)) ≡ 1 + sum L.pad (λ y. one (eqb (k * L.pad + y) b))
  one-copy k =
      sum-ext (copy_carriers L) _ _ (on-copy k)
      ∙ sum-permuted (copy_carriers L) (copy_order L k) (copy-permutes L s k) (λ x. sum L.bits (λ e. hit k (x * L.bits + e)))
      ∙ sym (sum_rows (copy_carriers L) L.bits (hit k)) ∙ ap (λ (n : ℕ). sum n (hit k)) s.full ∙ in-data k

  all-copies : sum (L.copies * copy_carriers L) on_carrier ≡ L.copies + one (ltb b (L.copies * L.pad))
  all-copies = sum_rows L.copies (copy_carriers L) on_carrier ∙ sum-ext L.copies _ _ (λ k l. one-copy k) ∙ pads L.pad b L.copies

  -- bit e of place c in symbol y
  hits : ℕ → ℕ → ℕ → Bool
  hits y c e = ltb c (used_carriers L) && eqb (copied_bit L (y * used_carriers L + c) e) b

  at_place : ℕ → ℕ → ℕ
  at_place y c = sum L.bits (λ e. one (hits y c e))

  -- a symbol: its used places, and those that carry nothing
  on-used : (y c : ℕ) → c < used_carriers L → at_place y c ≡ on_carrier (y * used_carriers L + c)
  unfolding at_place hits on_carrier
  on-used y c h = rw (lt-ltb c (used_carriers L) h)

  on-unused : (y c : ℕ) → used_carriers L ≤ c → at_place y c ≡ 0
  unfolding at_place hits
  on-unused y c h = rw (le-ltb c (used_carriers L) h) (sum-zero L.bits _ (λ e l. refl))

  in-symbol : (y : ℕ) → sum L.carriers (at_place y) ≡ sum (used_carriers L) (λ c. on_carrier (y * used_carriers L + c))
  in-symbol y =
      let rest : ℕ = L.carriers - used_carriers L in
      let whole : L.carriers ≡ used_carriers L + rest = omega (arith, s.there) in
      ap (λ (n : ℕ). sum n (at_place y)) whole ∙ sum-append (used_carriers L) rest (at_place y)
      ∙ ap₂ ◌+◌ (sum-ext (used_carriers L) _ _ (on-used y)) (sum-zero rest _ (λ c h. on-unused y (used_carriers L + c) (omega arith))) ∙ add-zero _

  in-carrier : (c : ℕ) → sum L.bits (λ e. one (carries L (c * L.bits + e) b)) ≡ at_place (c / L.carriers) (c % L.carriers)
  unfolding carries used carried at_place hits
  in-carrier c =
      sum-ext L.bits _ _ (λ e h. ap₂ (λ (i j : ℕ). one (hits (i / L.carriers) (i % L.carriers) j)) (digits_div c h) (digits_mod c h))

  in_row : (y : ℕ)
      → sum L.carriers (λ c. at_place ((y * L.carriers + c) / L.carriers) ((y * L.carriers + c) % L.carriers)) ≡ sum L.carriers (at_place y)
  in_row y = sum-ext L.carriers _ _ (λ c h. ap₂ at_place (digits_div y h) (digits_mod y h))

  -- one in each copy, and one more among the first copies * pad bits
  pub copies-are : copies (items L) (carries L) b ≡ L.copies + one (ltb b (L.copies * L.pad))
  unfolding copies count items
  copies-are =
      ap (λ (n : ℕ). sum n (λ n. one (carries L n b))) (sym (mul_assoc L.symbols L.carriers L.bits))
      ∙ sum_rows (L.symbols * L.carriers) L.bits (λ n. one (carries L n b))
      ∙ sum-ext (L.symbols * L.carriers) _ _ (λ c l. in-carrier c)
      ∙ sum_rows L.symbols L.carriers (λ c. at_place (c / L.carriers) (c % L.carriers))
      ∙ sum-ext L.symbols _ _ (λ y l. in_row y ∙ in-symbol y)
      ∙ sym (sum_rows L.symbols (used_carriers L) on_carrier)
      ∙ ap (λ (n : ℕ). sum n on_carrier) (mul_left_comm L.symbols L.copies (group_carriers L))
      ∙ all-copies

  -- so at least the copy count, and at most twelve
  pub copies-least : L.copies ≤ copies (items L) (carries L) b
  copies-least = omega (arith, copies-are)

  pub copies-most : Small L → copies (items L) (carries L) b ≤ 12
  copies-most small = omega (arith, copies-are, one-le (ltb b (L.copies * L.pad)), small.copies-in)
