-- Laws of digits and lines. Assumes nothing.
use mathlib.Core.Path.{◌≡◌, sym, ap}
use mathlib.Core.List.{List, [], ◌∷◌, ◌++◌, append_assoc}
use Prim.Native.Nat.{ℕ, suc, ◌+◌, ◌*◌, ◌-◌, ◌/◌, ◌%◌, ◌^◌, ◌≤◌, ◌<◌}
use native.Mathlib.Nat.{pow-le-pow_right}
use native.Mathlib.Numerals.{add-one}
use native.Mathlib.Omega.{arith}
use lib.Dec.{ltb}
use lib.ListN.{length, set, get_or, length-append}
use borrow.Author.Tests.{lt-ltb, le-ltb}
use Rattle.bits.specs.Lists.{tabulate, written}
use Rattle.bits.proofs.ListLaws.{lowest-here, lowest-none, lowest-le, length-tabulate, written-two, written_all}
use Rattle.std.specs.Option.{MatchOption, unwrap_or}
use Rattle.std.specs.Prelude.{Option, Some, None}
use Rattle.text.specs.Text.{places, decimal, binary, hex_digit, hex_at, line}

-- ---- decimal digits

pub power-pos : (k : ℕ) → 0 < 10 ^ k
power-pos k = pow-le-pow_right {n = 10} (omega arith) {i = 0} {j = k} (omega arith)

pub power-lt : (k : ℕ) → k < 20 → 10 ^ k < 2 ^ 64
power-lt k h = let z = pow-le-pow_right {n = 10} (omega arith) {i = k} {j = 19} (omega arith) in omega (arith, z)

-- the places of a number, by a search for the first power above it
pub places-found : (n : ℕ) (r : Option ℕ)
    → MatchOption r ((k : ℕ) → 1 ≤ k → k < 20 → 10 ^ k ≤ n) (λ i. (1 ≤ i) × (i < 20) × (n < 10 ^ i) × ((k : ℕ) → 1 ≤ k → k < i → 10 ^ k ≤ n))
    → unwrap_or r 20 ≡ places n
unfolding places
places-found n None none =
    ap suc
    (sym (lowest-none 19 (λ k. ltb n (10 ^ (k + 1))) (λ k l. le-ltb n (10 ^ (k + 1)) (none (k + 1) (omega arith) (omega arith)))))
places-found n (Some i) (one, few, here, before) =
    let q : i - 1 + 1 ≡ i = omega arith in
    let at = lowest-here 19 (λ k. ltb n (10 ^ (k + 1))) (i - 1) (omega arith) (λ k l. le-ltb n (10 ^ (k + 1)) (before (k + 1) (omega arith) (omega arith))) (rw q (lt-ltb n (10 ^ i) here)) in
    omega (arith, at)

pub places-le : (n : ℕ) → (1 ≤ places n) × (places n ≤ 20)
unfolding places
places-le n = let l = lowest-le 19 (λ j. ltb n (10 ^ (j + 1))) in (omega arith, omega arith)

-- digit k of a number, from the front
abbrev pub digit_of : ℕ → ℕ → ℕ
digit_of n k = 48 + n / 10 ^ (places n - 1 - k) % 10

-- one element more of a list that is appended
pub tabulated-next : (f : ℕ → ℕ) (i v : ℕ) (was now next : List ℕ) → now ≡ was ++ tabulate i f → next ≡ now ++ (v ∷ []) → v ≡ f i
    → next ≡ was ++ tabulate (i + 1) f
unfolding tabulate
tabulated-next f i v was now next e d g = rw (add-one, d, e, g) (append_assoc was (tabulate i f) (f i ∷ []))

pub length-decimal : (n : ℕ) → length (decimal n) ≡ places n
unfolding decimal
length-decimal n = length-tabulate (places n) _

pub length-binary : (width n : ℕ) → length (binary width n) ≡ width
unfolding binary
length-binary width n = length-tabulate width _

-- ---- lines

pub length-line : (name value : List ℕ) → length (line name value) ≡ length name + length value + 2
length-line name value = simp length-append (omega arith)

-- ---- hex digits

-- the two digits of byte k, stored one after the other
pub hex-written : (bytes : List ℕ) (k v w : ℕ) (out now : List ℕ) → 2 * k + 1 < length out → now ≡ written (2 * k) (hex_at bytes) out
    → v ≡ hex_digit (get_or bytes k 0 / 16) → w ≡ hex_digit (get_or bytes k 0 % 16)
    → set (set now (2 * k) v) (2 * k + 1) w ≡ written (2 * (k + 1)) (hex_at bytes) out
unfolding hex_at
hex-written bytes k v w out now h e f g =
    let even : 2 * k % 2 ≡ 0 = omega arith in
    let odd : (2 * k + 1) % 2 ≡ 1 = omega arith in
    let here : 2 * k / 2 ≡ k = omega arith in
    let there : (2 * k + 1) / 2 ≡ k = omega arith in
    written_all _ _ _ _ _ (written-two (2 * k) v w (hex_at bytes) out now e h (rw (even, here) f) (rw (odd, there) g)) (omega arith)
