-- Nibbles carried from rows to coded bits, or back. Assumes nothing.
use mathlib.Core.Path.{◌≡◌, sym, ap, ◌∙◌}
use mathlib.Core.Bool.{Bool, true, false, cond}
use mathlib.Core.List.{List}
use Prim.Native.Nat.{ℕ, ◌+◌, ◌-◌, ◌*◌, ◌/◌, ◌%◌, ◌<◌, ◌≤◌}
use native.Mathlib.Omega.{arith}
use lib.ListN.{length, get_or}
use Rattle.bits.specs.Permutations.{Permutes}
use Rattle.interleaver_shape.specs.declared.Shape.{Shape}
use Rattle.interleaver_shape.specs.Shapes.{shape_of, coded_of, coded_bits}
use Rattle.interleaver.specs.Source.{column}
use Rattle.interleaver.specs.Loops.RowOrder.{row_of, place_of, row_place}
use Rattle.bits.specs.Loops.Words.{word_byte, stored}
use Rattle.interleaver.specs.Loops.Stores.{target, origin, carried}
use Rattle.interleaver.proofs.SourceLaws.{column_apart}
use Rattle.interleaver.proofs.RowLaws.{place-nibble}
use Rattle.bits.proofs.StoreLaws.{stored-none, stored-append, stored-ext, stored-reordered}

-- the buffer after nibble n, whose row starts at `first`, is moved
abbrev Moved : ℕ → ℕ → Bool → List ℕ → List ℕ → List ℕ → Type 0
Moved n first back from to now =
    now ≡ stored 4 (λ b. cond back (first + column n b) (n * 4 + b))
    (λ b. get_or from (cond back (n * 4 + b) (first + column n b)) 0) to

columns-permute : (n : ℕ) → Permutes 4 (column n)
columns-permute n = record { below = λ b h. omega arith; apart = column_apart n }

-- bytes that stand side by side
side : (b a : ℕ) → b * 1 + a ≡ a + b
side b a = omega arith

module _ (n first : ℕ) (back : Bool) (from to now : List ℕ) (word x : ℕ) where
  -- a word read from a row and rotated on the way out
  pub nibble-out : back ≡ false → ((c : ℕ) → c < 4 → word_byte word c ≡ get_or from (c * 1 + first) 0)
      → ((b : ℕ) → b < 4 → word_byte x b ≡ word_byte word (column n b))
      → now ≡ stored 4 (λ b. b * 1 + n * 4) (word_byte x) to
      → Moved n first back from to now
  nibble-out way read rotated e =
      rw way
      (e
      ∙ stored-ext 4 _ _ _ _ to (λ b h. side b (n * 4))
      (λ b h. rotated b h ∙ read (column n b) (omega arith) ∙ ap (λ (y : ℕ). get_or from y 0) (side (column n b) first)))

  -- a word read from the coded bits and rotated on the way back
  pub nibble-back : back ≡ true → first + 4 ≤ length to
      → ((b : ℕ) → b < 4 → word_byte word b ≡ get_or from (b * 1 + n * 4) 0)
      → ((c : ℕ) → c < 4 → word_byte x c ≡ word_byte word ((c + n / 2 % 4) % 4))
      → now ≡ stored 4 (λ c. c * 1 + first) (word_byte x) to
      → Moved n first back from to now
  nibble-back way room read rotated e =
      rw way
      (e ∙ stored-reordered 4 (column n) (λ c. c * 1 + first) (word_byte x) to (columns-permute n) (λ j k hj hk z. omega arith) (λ k h. omega arith)
      ∙ stored-ext 4 _ _ _ _ to (λ b h. side (column n b) first) value)
    where
      value : (b : ℕ) → b < 4 → word_byte x (column n b) ≡ get_or from (n * 4 + b) 0
      value b h =
          let i : (column n b + n / 2 % 4) % 4 ≡ b = omega arith in
          rotated (column n b) (omega arith) ∙ ap (word_byte word) i ∙ read b h ∙ ap (λ (y : ℕ). get_or from y 0) (side b (n * 4))

module _ (L : Shape) (back : Bool) (from : List ℕ) where
  -- where bit i is stored, and what is stored there
  abbrev place : ℕ → ℕ
  place i = target back (place_of L) i

  abbrev value : ℕ → ℕ
  value i = get_or from (origin back (place_of L) i) 0

  -- a run of bits, by how many and from which on
  abbrev run : ℕ → ℕ → List ℕ → List ℕ
  run count first to = stored count (λ i. place (first + i)) (λ i. value (first + i)) to

  pub carried_none : (n : ℕ) (to : List ℕ) → to ≡ carried L back from n n to
  unfolding carried
  carried_none n to =
      let e : 0 ≡ (n - n) * 4 = omega arith in
      stored-none (λ i. place (n * 4 + i)) (λ i. value (n * 4 + i)) to ∙ ap (λ (k : ℕ). run k (n * 4) to) e

  -- nibbles n to m - 1, and then m to k - 1
  pub carried-join : (n m k : ℕ) (to then end : List ℕ) → then ≡ carried L back from n m to → end ≡ carried L back from m k then
      → n ≤ m → m ≤ k → end ≡ carried L back from n k to
  unfolding carried
  carried-join n m k to then end e d h l =
      let at : (i : ℕ) → m * 4 + i ≡ n * 4 + ((m - n) * 4 + i) = λ i. omega arith in
      let count : (m - n) * 4 + (k - m) * 4 ≡ (k - n) * 4 = omega arith in
      d
      ∙ stored-ext ((k - m) * 4) _ _ (λ i. place (n * 4 + ((m - n) * 4 + i))) (λ i. value (n * 4 + ((m - n) * 4 + i))) then
      (λ i b. ap place (at i)) (λ i b. ap value (at i))
      ∙ ap (stored ((k - m) * 4) (λ i. place (n * 4 + ((m - n) * 4 + i))) (λ i. value (n * 4 + ((m - n) * 4 + i)))) e
      ∙ sym (stored-append ((m - n) * 4) ((k - m) * 4) (λ i. place (n * 4 + i)) (λ i. value (n * 4 + i)) to)
      ∙ ap (λ (c : ℕ). run c (n * 4) to) count

  -- one nibble, by its row
  pub carried-one : (n row : ℕ) (to now : List ℕ) → row ≡ row_of L n → Moved n (row * 4) back from to now → now ≡ carried L back from n (n + 1) to
  unfolding carried
  carried-one n row to now e m =
      let one : 4 ≡ (n + 1 - n) * 4 = omega arith in
      let at : (b : ℕ) → b < 4 → row * 4 + column n b ≡ place_of L (n * 4 + b) = λ b h. omega (arith, e, place-nibble L n b h) in
      m
      ∙ stored-ext 4 _ _ (λ i. place (n * 4 + i)) (λ i. value (n * 4 + i)) to
      (λ b h. ap (λ (y : ℕ). cond back y (n * 4 + b)) (at b h))
      (λ b h. ap (λ (y : ℕ). get_or from (cond back (n * 4 + b) y) 0) (at b h))
      ∙ ap (λ (k : ℕ). run k (n * 4) to) one

  pub carried-all : (to now : List ℕ) → now ≡ carried L back from 0 (L.rows + L.parity) to → now ≡ stored (coded_of L) place value to
  unfolding carried
  carried-all to now d =
      let count : (L.rows + L.parity - 0) * 4 ≡ coded_of L = omega arith in
      let start : (i : ℕ) → 0 * 4 + i ≡ i = λ i. omega arith in
      d ∙ stored-ext ((L.rows + L.parity - 0) * 4) _ _ place value to (λ i b. ap place (start i)) (λ i b. ap value (start i))
      ∙ ap (λ (k : ℕ). stored k place value to) count

-- all nibbles of a block of a kind and rate
pub carried-block : (kind rate : ℕ) (back : Bool) (from to now : List ℕ) (L : Shape) → L ≡ shape_of kind rate
    → now ≡ carried L back from 0 (L.rows + L.parity) to
    → now ≡ stored (coded_bits kind rate) (target back (row_place kind rate)) (λ i. get_or from (origin back (row_place kind rate) i) 0) to
unfolding coded_bits row_place
carried-block kind rate back from to now L e d =
    carried-all L back from to now d
    ∙ ap (λ (K : Shape). stored (coded_of K) (target back (place_of K)) (λ i. get_or from (origin back (place_of K) i) 0) to) e
