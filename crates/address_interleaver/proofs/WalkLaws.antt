-- Laws of the walk down the columns, and of the table that it fills. Assumes nothing.
use mathlib.Core.Path.{◌≡◌, sym, ap, ap₂, ◌∙◌}
use mathlib.Core.List.{List}
use Prim.Native.Nat.{ℕ, zero, suc, ◌+◌, ◌*◌, ◌/◌, ◌%◌, ◌<◌, ◌≤◌, min}
use native.Mathlib.Nat.{mod-lt, div-eq_of_lt, mod-eq_of_lt, div-add-mod', zero-mul, mul-zero, mul_comm, add-mul, le-mul_of_pos_right, lt_of_mul-lt-mul_right}
use native.Mathlib.Omega.{arith}
use lib.Arith.{digits_div, digits_mod}
use lib.ListN.{length, get_or, set}
use lib.Seq.{get_or-set_same, get_or-set_other}
use borrow.Author.Tests.{lt-ltb, le-ltb}
use Rattle.bits.proofs.NumberLaws.{lt-cases}
use Rattle.bits.proofs.PermutationLaws.{moves}
use Rattle.interleaver.proofs.PassLaws.{pass_start, row_at, find, pass-is, pass-row, pass-permutes}
use Rattle.address_interleaver.specs.Addresses.{circshift, columns, out_addr}
use Rattle.address_interleaver.specs.Loops.Table.{next_in_column, next_column, address_of}
use Rattle.address_interleaver.proofs.RoundLaws.{shift-permutes, shift_back, shift-mod}
use Rattle.address_interleaver.proofs.AddressLaws.{out-still, out-stepped}

-- ---- what comes next in the columns

module _ (n m : ℕ) (pos : 0 < m) where
  pub column-in : (p : ℕ) → p < n → columns n m p < n
  column-in p h = (pass-permutes n m pos).below p h

  pub column-first : 0 < n → 0 ≡ columns n m 0
  column-first h =
      let (c, len, end, next, at) = pass-is n m pos 0 pos in
      let some : 0 < c = lt-cases 0 c (λ l. l) (λ l. absurd (let z : c ≡ 0 = omega arith in omega (arith, ap (λ (k : ℕ). k * m) z))) in
      let start : pass_start n m 0 + 0 ≡ 0 = omega arith in
      sym (pass-row n m pos 0 h ∙ ap (row_at n m) (sym start) ∙ at 0 some ∙ omega (arith, zero-mul m))

-- place p is the k-th of column j
module _ (n m : ℕ) (pos : 0 < m) (p j k : ℕ) (h : p + 1 < n) (hj : j < m) (hR : j + k * m < n) (e : p ≡ pass_start n m j + k) where
  -- how many the column has
  abbrev long : ℕ
  long = (pass-is n m pos j hj).0

  in-column : (r : ℕ) → p + 1 ≡ pass_start n m j + r → r < long → columns n m (p + 1) ≡ j + r * m
  in-column r f l = pass-row n m pos (p + 1) h ∙ ap (row_at n m) f ∙ (pass-is n m pos j hj).4 r l

  same-column : j + k * m + m < n → columns n m (p + 1) ≡ j + (k + 1) * m
  same-column l = in-column (k + 1) (omega arith) (lt_of_mul-lt-mul_right m (omega (arith, add-mul k 1 m, (pass-is n m pos j hj).2)))

  -- at the column's end the next one starts
  module _ (l : n ≤ j + k * m + m) where
    ended : pass_start n m (suc j) ≡ p + 1
    ended =
        let some : k < long = lt_of_mul-lt-mul_right m (omega (arith, (pass-is n m pos j hj).2)) in
        lt-cases (k + 1) long
        (λ b. absurd (omega (arith, in-column (k + 1) (omega arith) b, add-mul k 1 m, column-in n m pos (p + 1) h)))
        (λ b. omega (arith, (pass-is n m pos j hj).3))

    not_last : suc j < m
    not_last =
        lt-cases (suc j) m (λ b. b)
        (λ b.
        absurd
        (let last : suc j ≡ m = omega arith in
        let all : pass_start n m m ≡ p + 1 = ap (pass_start n m) (sym last) ∙ ended in
        omega (arith, div-add-mod' n m, mod-lt n pos, mul_comm m (n / m))))

    some_next : 0 < (pass-is n m pos (suc j) not_last).0
    some_next =
        lt-cases 0 (pass-is n m pos (suc j) not_last).0 (λ b. b)
        (λ b.
        absurd
        (let none : (pass-is n m pos (suc j) not_last).0 ≡ 0 = omega arith in
        let few : n ≤ suc j = omega (arith, (pass-is n m pos (suc j) not_last).2, ap (λ (c : ℕ). c * m) none) in
        let first : k ≡ 0 = lt-cases 0 k (λ b. absurd (omega (arith, le-mul_of_pos_right {m = m} k pos, not_last))) (λ b. omega arith) in
        let small : n < m = omega (arith, not_last) in
        let start : pass_start n m j ≡ j =
        ap₂ (λ (a b : ℕ). j * a + min j b) (div-eq_of_lt small) (mod-eq_of_lt small) ∙ omega (arith, mul-zero j) in
        omega arith))

    next-head : columns n m (p + 1) ≡ j + 1
    next-head =
        pass-row n m pos (p + 1) h ∙ ap (row_at n m) (let z : p + 1 ≡ pass_start n m (suc j) + 0 = omega (arith, ended) in z)
        ∙ (pass-is n m pos (suc j) not_last).4 0 some_next ∙ omega (arith, zero-mul m)

-- what the walk goes to from the place p
module _ (n m : ℕ) (pos : 0 < m) (p : ℕ) (h : p + 1 < n) where
  abbrev Next : ℕ → Type 0
  Next x = (next_in_column n m x (x % m) ≡ columns n m (p + 1)) × (next_column n m x (x % m) ≡ columns n m (p + 1) % m)

  pub column-next : Next (columns n m p)
  column-next =
      let (j, k, hj, hR, e, d) = find n m pos p (omega arith) in
      let x : columns n m p ≡ j + k * m = pass-row n m pos p (omega arith) ∙ d in
      let column : (r : ℕ) → (j + r * m) % m ≡ j = λ r. ap (λ (y : ℕ). y % m) (let z : j + r * m ≡ r * m + j = omega arith in z) ∙ digits_mod r hj in
      rw x (
      lt-cases (j + k * m + m) n
      (λ l.
      let to = same-column n m pos p j k h hj hR e l in (
        rw (lt-ltb (j + k * m + m) n l, to) (omega (arith, add-mul k 1 m)),
        rw (lt-ltb (j + k * m + m) n l, to) (column k ∙ sym (column (k + 1))),
      ))
      (λ l.
      let to = next-head n m pos p j k h hj hR e l in (
        rw (le-ltb (j + k * m + m) n l, to, column k),
        rw (le-ltb (j + k * m + m) n l, to, column k) (let short : j + 1 < m = omega (arith, not_last n m pos p j k h hj hR e l) in sym (mod-eq_of_lt short)),
      ))
      )

-- ---- the walk: the numbers of the first q places are stored

abbrev pub Walked : ℕ → ℕ → ℕ → ℕ → ℕ → List ℕ → Type 0
Walked n m start base q out = (i : ℕ) → i < q → get_or out ((i + start) % n) 0 ≡ base + columns n m i

pub walk-next : (n m start base q v : ℕ) (out : List ℕ) → q < n → n ≤ length out → v ≡ base + columns n m q → Walked n m start base q out
    → Walked n m start base (q + 1) (set out ((q + start) % n) v)
walk-next n m start base q v out h l e w i k =
    lt-cases i q
    (λ below. get_or-set_other out ((q + start) % n) ((i + start) % n) v 0 (apart below) ∙ w i below)
    (λ above.
    let same : i ≡ q = omega arith in
    let within : (q + start) % n < n = mod-lt (q + start) (omega arith) in
    rw same (get_or-set_same out ((q + start) % n) v 0 (omega arith) ∙ e))
  where
    apart : i < q → (i + start) % n ≡ (q + start) % n → ⊥
    apart below z = let s : i ≡ q = (moves n start).apart i q (omega arith) h z in omega arith

pub walk-all : (n m start base : ℕ) (now : List ℕ) → Walked n m start base n now
    → (p : ℕ) → p < n → get_or now p 0 ≡ base + columns n m (circshift n start p)
walk-all n m start base now w p h =
    ap (λ (x : ℕ). get_or now x 0) (sym (shift_back n start p h)) ∙ w (circshift n start p) ((shift-permutes n start).below p h)

-- ---- addresses

-- one column
columns-one : (n q : ℕ) → q < n → columns n 1 q ≡ q
columns-one n zero h = sym (column-first n 1 (omega arith) h)
columns-one n (suc q) h =
    let next = (column-next n 1 (omega arith) q (omega arith)).0 in
    let here = columns-one n q (omega arith) in
    ap (columns n 1) (let z : suc q ≡ q + 1 = omega arith in z) ∙ sym next
    ∙ rw here (rw (lt-ltb (q + 1) n (omega arith)) (omega arith))

pub still-row : (n step k base p : ℕ) → step ≡ 0 → p < n → base + columns n 1 (circshift n (k % n) p) ≡ base + out_addr n step k p
still-row n step k base p e h =
    ap (λ (x : ℕ). base + x)
    (columns-one n _ ((shift-permutes n (k % n)).below p h) ∙ shift-mod n k p ∙ sym (out-still n step k p e))

pub stepped-row : (n step k base p : ℕ) → (step ≡ 0 → ⊥)
    → base + columns n ((k + 1) * step) (circshift n (2 * k * step % n) p) ≡ base + out_addr n step k p
stepped-row n step k base p e =
    ap (λ (x : ℕ). base + x) (ap (columns n ((k + 1) * step)) (shift-mod n (2 * k * step) p) ∙ sym (out-stepped n step k p e))

-- the addresses of interleaver k in the table
pub address-at : (interleavers span step k i : ℕ) → i < span
    → k % interleavers * span + out_addr span step k i ≡ address_of interleavers span step (k * span + i)
unfolding address_of
address-at interleavers span step k i h = rw (digits_div k h, digits_mod k h)
