-- The pair interleaver, read off a list that has the block's pairs twice. Assumes nothing.
use mathlib.Core.Path.{◌≡◌, refl, sym, ap, ap₂, ◌∙◌}
use mathlib.Core.List.{List}
use Prim.Native.Nat.{ℕ, zero, suc, ◌+◌, ◌-◌, ◌*◌, ◌/◌, ◌%◌, ◌≤◌, ◌<◌}
use native.Mathlib.Nat.{add-mul, mul_assoc, mul_left_comm, mul-le-mul_right, mod-lt, mod-eq_of_lt, div-add-mod'}
use native.Mathlib.Omega.{arith}
use lib.Arith.{digits_div, digits_mod}
use lib.ListN.{length, get_or, take, drop}
use lib.Seq.{get_or-drop, get_or-take}
use borrow.Author.Tests.{eq-eqb, ne_eqb}
use Rattle.std.proofs.lemmas.List.{places}
use Rattle.bits.specs.Bits.{bit_of}
use Rattle.bits.proofs.NumberLaws.{lt-cases, row_within}
use Rattle.card.specs.Modes.{block_bytes}
use Rattle.pair_interleaver.specs.Interleave.{starts, interleaved, source_pair_by, Interleaver, exchanged, exchanged_at, interleaved_by}
use Rattle.constituent.specs.Pairs.{pair_at}
use Rattle.constituent.specs.Loops.Bytes.{pair_in, four_from}
use Rattle.pair_interleaver.specs.Loops.Gather.{digit_of, twice, place_in, picked, by_rows, exchanged_byte, Gathering, Interleaving}
use Rattle.constituent.proofs.PairLaws.{few-pairs, pair_lt, pair-in-byte}
use Rattle.pair_interleaver.proofs.InterleaveLaws.{table, whole-rows}

-- ---- the list

-- the digits of element i
pub digit-even : (base : ℕ) (src : List ℕ) (i : ℕ) → get_or src i 0 / base % base ≡ digit_of base src (2 * i)
unfolding digit_of
digit-even base src i = let a : 2 * i / 2 ≡ i = omega arith in rw (a, eq-eqb (2 * i % 2) 0 (omega arith))

pub digit-odd : (base : ℕ) (src : List ℕ) (i : ℕ) → get_or src i 0 % base ≡ digit_of base src (2 * i + 1)
unfolding digit_of
digit-odd base src i = let a : (2 * i + 1) / 2 ≡ i = omega arith in rw (a, ne_eqb ((2 * i + 1) % 2) 0 (λ e. omega arith))

-- the digits to the base four of the digits to the base sixteen are the pairs
pub digits-pairs : (bytes halves : List ℕ) → ((k : ℕ) → k < 2 * length bytes → get_or halves k 0 ≡ digit_of 16 bytes k)
    → (t : ℕ) → t < 4 * length bytes → digit_of 4 halves t ≡ pair_at (bit_of bytes) t
digits-pairs bytes halves at t h =
    ap (digit_of 4 halves) q ∙ go (t / 4) (t % 4) (omega arith) (omega arith) ∙ pair-in-byte bytes (t / 4) (t % 4) (omega arith) ∙ ap (pair_at (bit_of bytes)) (sym q)
  where
    q : t ≡ 4 * (t / 4) + t % 4
    q = omega arith

    high : (i : ℕ) → i < length bytes → get_or halves (2 * i) 0 ≡ get_or bytes i 0 / 16 % 16
    high i l = at (2 * i) (omega arith) ∙ sym (digit-even 16 bytes i)

    low : (i : ℕ) → i < length bytes → get_or halves (2 * i + 1) 0 ≡ get_or bytes i 0 % 16
    low i l = at (2 * i + 1) (omega arith) ∙ sym (digit-odd 16 bytes i)

    go : (i j : ℕ) → i < length bytes → j < 4 → digit_of 4 halves (4 * i + j) ≡ pair_in (get_or bytes i 0) j
    go i zero l b = ap (digit_of 4 halves) (omega arith) ∙ sym (digit-even 4 halves (2 * i)) ∙ omega (arith, high i l)
    go i (suc zero) l b = ap (digit_of 4 halves) (omega arith) ∙ sym (digit-odd 4 halves (2 * i)) ∙ omega (arith, high i l)
    go i (suc (suc zero)) l b = ap (digit_of 4 halves) (omega arith) ∙ sym (digit-even 4 halves (2 * i + 1)) ∙ omega (arith, low i l)
    go i (suc (suc (suc zero))) l b = ap (digit_of 4 halves) (omega arith) ∙ sym (digit-odd 4 halves (2 * i + 1)) ∙ omega (arith, low i l)
    go i (suc (suc (suc (suc j)))) l b = absurd (omega arith)

-- the first l elements, and the same again
pub twice-first : (l : ℕ) (p : ℕ → ℕ) (t : ℕ) → t < l → p t ≡ twice l p t
unfolding twice
twice-first l p t h = ap p (sym (mod-eq_of_lt h))

pub twice-again : (l : ℕ) (p : ℕ → ℕ) (t : ℕ) → l ≤ t → t < 2 * l → p (t - l) ≡ twice l p t
unfolding twice
twice-again l p t h b =
    let e : 1 * l + (t - l) ≡ t = omega arith in
    let small : t - l < l = omega arith in
    ap p (sym (ap (λ (k : ℕ). k % l) (sym e) ∙ digits_mod 1 small))

-- ---- the places of four rows

pub row-place : (s : List ℕ) (r k : ℕ) → k < length s → get_or s k 0 + (3 - r) * length s ≡ place_in s (r * length s + k)
unfolding place_in
row-place s r k h = rw (digits_div r h, digits_mod r h)

-- ---- the rows

-- a row that begins in n bytes ends in them
pub next_row : (w n r at : ℕ) → at ≡ r * w → at < n → n / w * w ≡ n → at + w ≤ n
next_row w n r at e h q =
    lt-cases r (n / w) (λ l. omega (arith, row_within r w (n / w) l)) (λ l. absurd (omega (arith, mul-le-mul_right {m = n / w} {n = r} w l)))

-- what is picked is a pair
pub picked-pair : (places list out : List ℕ) → Gathering places list out → (t r : ℕ) → t < length places → r ≡ picked places list t → r < 4
unfolding picked
picked-pair places list out G t r h e = rw e (G.pairs (get_or places t 0) (G.there t h))

-- a place is in what is left of the list
pub place-lt : (places list was : List ℕ) → Interleaving places list was → (base : ℕ) → base + 3 * (length places / 4) ≤ 4 * length was
    → (t : ℕ) → t < length places → get_or places t 0 < length list - base
place-lt places list was I base low t h = omega (arith, I.there t h)

module _ (places list : List ℕ) (n r at : ℕ) (e : at ≡ r * (length places / 4)) where
  -- the width of four rows in bytes, and where they are read from
  abbrev width : ℕ
  width = length places / 4

  abbrev base : ℕ
  base = 4 * (n - at) - 3 * width

  rows_at : (y : ℕ) → y < 4 * width → get_or list (base + get_or places y 0) 0 ≡ by_rows places list n (4 * at + y)
  unfolding by_rows
  rows_at y h =
      let z : 4 * at ≡ r * (4 * width) = ap (◌*◌ 4) e ∙ mul_left_comm 4 r width in
      rw (z, digits_div r h, digits_mod r h, e)

  pub rows-byte : (m j : ℕ) → j < width → ((t : ℕ) → t < length places → get_or places t 0 < m)
      → four_from (picked places (take m (drop base list))) j ≡ four_from (by_rows places list n) (at + j)
  unfolding picked
  rows-byte m j h there =
      let z : 4 * j + 0 ≡ 4 * j = omega arith in
      let y : 4 * (at + j) + 0 ≡ 4 * (at + j) = omega arith in
      omega (arith, rw (z, y) at (pair 0 (omega arith)), pair 1 (omega arith), pair 2 (omega arith), pair 3 (omega arith))
    where
      pair : (k : ℕ) → k < 4 → get_or (take m (drop base list)) (get_or places (4 * j + k) 0) 0 ≡ by_rows places list n (4 * (at + j) + k)
      pair k l =
          let b : get_or places (4 * j + k) 0 < m = there (4 * j + k) (omega arith) in
          let q : 4 * at + (4 * j + k) ≡ 4 * (at + j) + k = omega arith in
          rw (get_or-take, get_or-drop) (rows_at (4 * j + k) (omega arith) ∙ ap (by_rows places list n) q)

-- ---- the exchange

even-out : (x u : ℕ) → x % 2 ≡ 0 → exchanged_at x u ≡ exchanged u
unfolding exchanged_at
even-out x u h = rw (eq-eqb (x % 2) 0 h)

odd-out : (x u : ℕ) → x % 2 ≡ 1 → exchanged_at x u ≡ u
unfolding exchanged_at
odd-out x u h = rw (ne_eqb (x % 2) 0 (λ e. omega arith))

-- of four pairs from an even place on the first and the third are exchanged
exchanged-four : (p : ℕ → ℕ) → ((t : ℕ) → p t < 4) → (i : ℕ) → exchanged_byte (four_from p i) ≡ four_from (λ x. exchanged_at x (p x)) i
unfolding exchanged_byte
exchanged-four p h i =
    let b : ℕ = four_from p i in
    let q : (p (4 * i) < 4) × (p (4 * i + 1) < 4) × (p (4 * i + 2) < 4) × (p (4 * i + 3) < 4) = (h (4 * i), h (4 * i + 1), h (4 * i + 2), h (4 * i + 3)) in
    let c : b / 64 ≡ p (4 * i) = omega arith in
    let d : b / 16 % 4 ≡ p (4 * i + 1) = omega arith in
    let e : b / 4 % 4 ≡ p (4 * i + 2) = omega arith in
    let f : b % 4 ≡ p (4 * i + 3) = omega arith in
    rw (
      c,
      d,
      e,
      f,
      even-out (4 * i) (p (4 * i)) (omega arith),
      odd-out (4 * i + 1) (p (4 * i + 1)) (omega arith),
      even-out (4 * i + 2) (p (4 * i + 2)) (omega arith),
      odd-out (4 * i + 3) (p (4 * i + 3)) (omega arith),
    )

-- ---- the whole

module _ (l n : ℕ) (s : List ℕ) (I : Interleaver l s) (q : l ≡ 4 * n) (rows : n / length s * length s ≡ n) where
  -- where output pair x is read is its place, or its place in the second list
  place_twice : (x : ℕ) → x < l
      → 4 * (n - x / (4 * length s) * length s) - 3 * length s + place_in s (x % (4 * length s)) ≡ get_or s (x % length s) 0 + l - x / length s * length s
  unfolding place_in
  place_twice x h =
      let w : ℕ = length s in
      let a : ℕ = x / (4 * w) in
      let y : ℕ = x % (4 * w) in
      let b : ℕ = y / w in
      let c : ℕ = y % w in
      let hc : c < w = mod-lt y I.some in
      let hy : y < 4 * w = mod-lt x (omega (arith, I.some)) in
      let e : b * w + c ≡ y = div-add-mod' y w in
      let d : (4 * a + b) * w ≡ 4 * (a * w) + b * w = add-mul (4 * a) b w ∙ ap (λ (k : ℕ). k + b * w) (mul_assoc 4 a w) in
      let z : x ≡ (4 * a + b) * w + c = omega (arith, div-add-mod' x (4 * w), mul_left_comm a 4 w) in
      let hb : b < 4 = lt-cases b 4 (λ k. k) (λ k. absurd (omega (arith, mul-le-mul_right {m = 4} {n = b} w k))) in
      let t : (3 - b) * w + b * w ≡ 3 * w = sym (add-mul (3 - b) b w) ∙ ap (λ (k : ℕ). k * w) (omega arith) in
      let r : a * w + w ≤ n = next_row w n a (a * w) refl (omega arith) rows in
      let v : 4 * (n - a * w) - 3 * w + (get_or s c 0 + (3 - b) * w) ≡ get_or s c 0 + l - (4 * a + b) * w = omega arith in
      v
      ∙ ap₂ (λ (i j : ℕ). get_or s i 0 + l - j * w) (sym (ap (λ (k : ℕ). k % w) z ∙ digits_mod (4 * a + b) hc))
      (sym (ap (λ (k : ℕ). k / w) z ∙ digits_div (4 * a + b) hc))

  module _ (p : ℕ → ℕ) (places list : List ℕ) (many : length places ≡ 4 * length s) (long : length list ≡ 8 * n)
      (place_at : (t : ℕ) → t < 4 * length s → get_or places t 0 ≡ place_in s t) (listed : (t : ℕ) → t < 8 * n → get_or list t 0 ≡ twice l p t) where
    width_is : length places / 4 ≡ length s
    width_is = omega arith

    list_at : (t : ℕ) → t < 8 * n → get_or list t 0 ≡ p (t % l)
    unfolding twice
    list_at t h = listed t h

    rows-place : (x : ℕ) → x < l → by_rows places list n x ≡ p (source_pair_by l s x)
    unfolding by_rows source_pair_by
    rows-place x h =
        let k : get_or places (x % (4 * length s)) 0 ≡ place_in s (x % (4 * length s)) = place_at (x % (4 * length s)) (mod-lt x (omega (arith, I.some))) in
        let v : 4 * (n - x / (4 * length s) * length s) - 3 * length s + get_or places (x % (4 * length s)) 0 ≡ get_or s (x % length s) 0 + l - x / length s * length s =
        ap (λ (m : ℕ). 4 * (n - x / (4 * length s) * length s) - 3 * length s + m) k ∙ place_twice x h in
        rw width_is (rw v (list_at _ (omega (arith, I.below (x % length s) (mod-lt x I.some)))))

    pub interleaving : (out : List ℕ) → ((t : ℕ) → p t < 4) → n ≤ 520 → length out ≡ n → Interleaving places list out
    unfolding place_in
    interleaving out hp few room =
        record {
          some = rw width_is I.some;
          rows = rw (width_is, room) rows;
          small = omega arith;
          there = λ t h.
              let b : t < 4 * length s = omega arith in
              omega (
                arith,
                place_at t b,
                width_is,
                long,
                I.below (t % length s) (mod-lt t I.some),
                mul-le-mul_right {m = 3 - t / length s} {n = 3} (length s) (omega arith),
              );
          pairs = λ t h. rw (list_at t (omega arith)) (hp (t % l));
        }

    -- the bytes exchanged are those of the interleaved pairs
    pub second-four : ((t : ℕ) → p t < 4) → (i : ℕ) → i < n → exchanged_byte (four_from (by_rows places list n) i) ≡ four_from (interleaved_by l s p) i
    unfolding interleaved_by
    second-four hp i b = ap exchanged_byte byte ∙ exchanged-four (λ x. p (source_pair_by l s x)) (λ t. hp (source_pair_by l s t)) i
      where
        byte : four_from (by_rows places list n) i ≡ four_from (λ x. p (source_pair_by l s x)) i
        byte =
            rw
            (rows-place (4 * i) (omega arith), rows-place (4 * i + 1) (omega arith), rows-place (4 * i + 2) (omega arith), rows-place (4 * i + 3) (omega arith))

-- by the kind of a block: what is asked of its places and of its list, and what is stored
module _ (kind : ℕ) (h : kind < 5) (bytes : List ℕ) (hb : length bytes ≡ block_bytes kind) (places list : List ℕ)
    (many : length places ≡ 4 * length (starts kind)) (long : length list ≡ 8 * length bytes)
    (place_at : (t : ℕ) → t < 4 * length (starts kind) → get_or places t 0 ≡ place_in (starts kind) t)
    (listed : (t : ℕ) → t < 8 * length bytes → get_or list t 0 ≡ twice (4 * length bytes) (pair_at (bit_of bytes)) t) where
  its-table : Interleaver (4 * length bytes) (starts kind)
  its-table = rw hb (table kind h)

  its-rows : length bytes / length (starts kind) * length (starts kind) ≡ length bytes
  its-rows = rw hb (whole-rows kind h)

  pub second-asked : (out : List ℕ) → length out ≡ length bytes → Interleaving places list out
  second-asked out room =
      interleaving (4 * length bytes) (length bytes) (starts kind) its-table refl its-rows (pair_at (bit_of bytes)) places list many long place_at listed out (pair_lt bytes)
      (omega (arith, few-pairs kind h)) room

  pub second-done : (i : ℕ) → i < length bytes
      → exchanged_byte (four_from (by_rows places list (length bytes)) i) ≡ four_from (interleaved kind (pair_at (bit_of bytes))) i
  unfolding interleaved
  second-done i b =
      second-four (4 * length bytes) (length bytes) (starts kind) its-table refl its-rows (pair_at (bit_of bytes)) places list many long place_at listed (pair_lt bytes) i b
      ∙ ap (λ (n : ℕ). four_from (interleaved_by (4 * n) (starts kind) (pair_at (bit_of bytes))) i) hb
