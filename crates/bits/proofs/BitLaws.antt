-- Laws of the bits of numbers and bytes: packing and taking apart undo each other, and exclusive-or undoes itself. Assumes nothing.
use mathlib.Core.Path.{◌≡◌, refl, sym, ap, ap₂, ◌∙◌}
use mathlib.Core.List.{List}
use Prim.Native.Nat.{ℕ, zero, suc, ◌+◌, ◌-◌, ◌*◌, ◌/◌, ◌%◌, ◌^◌, ◌≤◌, ◌<◌}
use native.Mathlib.Nat.{add-zero, zero-add, add-suc, add_assoc, mul_assoc, eq-or-lt_of_le, le_of_suc-le-suc, not-suc-le-zero, pow-suc}
use mathlib.Core.Logic.{◌⊎◌, inl, inr}
use native.Mathlib.Numerals.{add-one, one-add}
use native.Mathlib.Omega.{arith}
use lib.Arith.{bin_ind, digits_div, digits_mod}
use lib.Bits.{bit_xor, differ, xor_step, xor_self, xor_zero_l, xor_zero_r, xor_shr, xor_mod, xor_block}
use lib.ListN.{length, get_or, take, drop, length-drop}
use lib.Seq.{take_all, get_or-drop}
use Rattle.std.specs.Int.{w64, to_be_bytes}
use lib.Pow.{shr-shr, mod-pow-add, pow_mono, high, low}
use Rattle.bits.specs.Lists.{tabulate, written}
use Rattle.bits.specs.Bits.{bit_at, bit_of, pack, byte_of, field, bytes_of}
use Rattle.bits.proofs.ListLaws.{length-tabulate, get_or-tabulate, get_or-written, tabulate-of, tabulate-ext, written-ext}
use Rattle.bits.proofs.RangeLaws.{agree₂, agree₃, under₂}

-- each of the bits d is 0 or 1
abbrev pub Binary : ℕ → (ℕ → ℕ) → Type 0
Binary n d = (j : ℕ) → j < n → d j < 2

pub pack-next : (n : ℕ) (d : ℕ → ℕ) → pack (n + 1) d ≡ pack n d * 2 + d n
unfolding pack
pack-next n d = rw add-one

pub pack-ext : (n : ℕ) (d e : ℕ → ℕ) → ((j : ℕ) → j < n → d j ≡ e j) → pack n d ≡ pack n e
unfolding pack
pack-ext zero d e h = refl
pack-ext (suc n) d e h = rw (pack-ext n d e (λ j l. h j (omega arith)), h n (omega arith))

pub pack-lt : (n : ℕ) (d : ℕ → ℕ) → Binary n d → pack n d < 2 ^ n
unfolding pack
pack-lt zero d h = omega arith
pack-lt (suc n) d h = omega (arith, pow-suc 2 n, pack-lt n d (λ j l. h j (omega arith)), h n (omega arith))

-- n bits, and then m: the number of the first shifted up by m
pub pack-append : (n m : ℕ) (d : ℕ → ℕ) → pack (n + m) d ≡ pack n d * 2 ^ m + pack m (λ j. d (n + j))
unfolding pack
pack-append n zero d = rw add-zero (omega arith)
pack-append n (suc m) d = rw add-suc (omega (arith, pack-append n m d, pow-suc 2 m, spread))
  where
    spread : pack n d * 2 ^ suc m ≡ pack n d * 2 ^ m * 2
    spread = ap (λ (p : ℕ). pack n d * p) (pow-suc 2 m) ∙ sym (mul_assoc (pack n d) (2 ^ m) 2)

bit_up : (k x b : ℕ) → b < 2 → bit_at (suc k) (x * 2 + b) ≡ bit_at k x
bit_up k x b h =
    ap (λ (j : ℕ). (x * 2 + b) / 2 ^ j % 2) (sym (one-add k)) ∙ ap (λ (y : ℕ). y % 2) (sym (shr-shr (x * 2 + b) 1 k))
    ∙ ap (λ (y : ℕ). y / 2 ^ k % 2) (digits_div x h)

-- a bit of a packed number
pub bit-pack : (n : ℕ) (d : ℕ → ℕ) → Binary n d → (j : ℕ) → j < n → bit_at (n - 1 - j) (pack n d) ≡ d j
unfolding pack
bit-pack zero d h j l = absurd (not-suc-le-zero l)
bit-pack (suc n) d h j l = go (eq-or-lt_of_le (le_of_suc-le-suc l)) (bit-pack n d (λ j l. h j (omega arith)) j)
  where
    go : (j ≡ n) ⊎ (j < n) → (j < n → bit_at (n - 1 - j) (pack n d) ≡ d j) → bit_at (suc n - 1 - j) (pack n d * 2 + d n) ≡ d j
    go (inl e) ih =
        let z : suc n - 1 - j ≡ 0 = omega arith in
        rw (z, e) (omega (arith, h n (omega arith)))
    go (inr b) ih =
        let z : suc n - 1 - j ≡ suc (n - 1 - j) = omega arith in
        rw z (bit_up (n - 1 - j) (pack n d) (d n) (h n (omega arith)) ∙ ih b)

-- the bits of a number, packed again
pub pack-bits : (n x : ℕ) → pack n (λ j. bit_at (n - 1 - j) x) ≡ x % 2 ^ n
unfolding pack
pack-bits zero x = omega arith
pack-bits (suc n) x =
    rw (pack-ext n _ (λ j. bit_at (n - 1 - j) (x / 2)) below, pack-bits n (x / 2), last)
    (omega (arith, mod-pow-add x n 1, pow-suc 2 n, ap (λ (k : ℕ). x % 2 ^ k) (add-one n)))
  where
    last : suc n - 1 - n ≡ 0
    last = omega arith

    below : (j : ℕ) → j < n → bit_at (suc n - 1 - j) x ≡ bit_at (n - 1 - j) (x / 2)
    below j h =
        let z : suc n - 1 - j ≡ 1 + (n - 1 - j) = omega arith in
        rw (z, ← shr-shr x 1 (n - 1 - j))

-- the bits of a number from bit s up, packed
pub pack-shifted : (n s x : ℕ) → pack n (λ j. bit_at (s + (n - 1 - j)) x) ≡ x / 2 ^ s % 2 ^ n
pack-shifted n s x = pack-ext n _ (λ j. bit_at (n - 1 - j) (x / 2 ^ s)) (λ j h. ap (λ (y : ℕ). y % 2) (sym (shr-shr x s (n - 1 - j)))) ∙ pack-bits n (x / 2 ^ s)

-- ---- exclusive-or

differ-lt : (x y : ℕ) → x < 2 → y < 2 → differ x y < 2
differ-lt = under₂ 2 2 2 differ tt

differ-assoc : (x y z : ℕ) → x < 2 → y < 2 → z < 2 → differ (differ x y) z ≡ differ x (differ y z)
differ-assoc = agree₃ 2 2 2 (λ x y z. differ (differ x y) z) (λ x y z. differ x (differ y z)) tt

-- a number by its half and its lowest bit
split-xor : (x l c : ℕ) → l < 2 → bit_xor (x * 2 + l) c ≡ bit_xor x (c / 2) * 2 + differ l (c % 2)
split-xor x l c h = xor_step (x * 2 + l) c ∙ ap₂ (λ (m n : ℕ). bit_xor m (c / 2) * 2 + differ n (c % 2)) (digits_div x h) (digits_mod x h)

pub xor_assoc : (a b c : ℕ) → bit_xor (bit_xor a b) c ≡ bit_xor a (bit_xor b c)
xor_assoc =
    bin_ind (λ (n : ℕ). (b c : ℕ) → bit_xor (bit_xor n b) c ≡ bit_xor n (bit_xor b c)) (λ b c. rw (xor_zero_l b, xor_zero_l (bit_xor b c))) (λ n ih b c.
    ap (λ (m : ℕ). bit_xor m c) (xor_step n b)
    ∙ split-xor (bit_xor (n / 2) (b / 2)) (differ (n % 2) (b % 2)) c (differ-lt (n % 2) (b % 2) (omega arith) (omega arith))
    ∙ ap₂ (λ (x y : ℕ). x * 2 + y) (ih (b / 2) (c / 2)) (differ-assoc (n % 2) (b % 2) (c % 2) (omega arith) (omega arith) (omega arith))
    ∙ sym
    (xor_step n (bit_xor b c)
    ∙ ap₂ (λ (x y : ℕ). bit_xor (n / 2) x * 2 + differ (n % 2) y) (xor_shr b c 1)
    (xor_mod b c 1 ∙ one_bit (b % 2) (c % 2) (omega arith) (omega arith))))
  where
    one_bit : (x y : ℕ) → x < 2 → y < 2 → bit_xor x y ≡ differ x y
    one_bit = agree₂ 2 2 bit_xor differ tt

pub xor-cancel : (a b : ℕ) → bit_xor (bit_xor a b) b ≡ a
xor-cancel a b = xor_assoc a b b ∙ ap (bit_xor a) (xor_self b) ∙ xor_zero_r a

-- packing carries it from bits to numbers
pub pack-xor : (n : ℕ) (d e : ℕ → ℕ) → Binary n d → Binary n e → pack n (λ j. bit_xor (d j) (e j)) ≡ bit_xor (pack n d) (pack n e)
unfolding pack
pack-xor zero d e hd he = refl
pack-xor (suc n) d e hd he =
    rw (pack-xor n d e (λ j l. hd j (omega arith)) (λ j l. he j (omega arith)))
    (sym (xor_block 1 (pack n d) (pack n e) (d n) (e n) (hd n (omega arith)) (he n (omega arith))))

-- ---- bytes

-- a field within one byte
pub field-in-byte : (bytes : List ℕ) (k i n : ℕ) → i + n ≤ 8 → field bytes (8 * k + i) n ≡ get_or bytes k 0 / 2 ^ (8 - i - n) % 2 ^ n
unfolding field bit_of
field-in-byte bytes k i n h = pack-ext n _ (λ j. bit_at (8 - i - n + (n - 1 - j)) (get_or bytes k 0)) same ∙ pack-shifted n (8 - i - n) (get_or bytes k 0)
  where
    same : (j : ℕ) → j < n → bit_at (7 - (8 * k + i + j) % 8) (get_or bytes ((8 * k + i + j) / 8) 0) ≡ bit_at (8 - i - n + (n - 1 - j)) (get_or bytes k 0)
    same j l =
        let q : (8 * k + i + j) / 8 ≡ k = omega arith in
        let r : 7 - (8 * k + i + j) % 8 ≡ 8 - i - n + (n - 1 - j) = omega arith in
        rw (q, r)

-- bit j of byte k
pub byte-bit : (bytes : List ℕ) (k j : ℕ) → j < 8 → bit_at (7 - j) (get_or bytes k 0) ≡ bit_of bytes (8 * k + j)
unfolding bit_of
byte-bit bytes k j h =
    let q : (8 * k + j) / 8 ≡ k = omega arith in
    let r : (8 * k + j) % 8 ≡ j = omega arith in
    rw (q, r)

-- a byte's bits, packed again, are the byte
pub byte-bits : (bytes : List ℕ) (k : ℕ) → get_or bytes k 0 < 256 → byte_of (bit_of bytes) k ≡ get_or bytes k 0
unfolding byte_of field
byte-bits bytes k h = let e : 8 * k + 0 ≡ 8 * k = omega arith in rw e at (field-in-byte bytes k 0 8 (omega arith)) ∙ omega arith

pub length-bytes : (n : ℕ) (d : ℕ → ℕ) → length (bytes_of n d) ≡ n
unfolding bytes_of
length-bytes n d = length-tabulate n (byte_of d)

pub bit-binary : (bytes : List ℕ) (i : ℕ) → bit_of bytes i < 2
unfolding bit_of
bit-binary bytes i = omega arith

-- the bits of packed bytes are the bits that were packed
pub bits-bytes : (n : ℕ) (d : ℕ → ℕ) → Binary (8 * n) d → (i : ℕ) → i < 8 * n → bit_of (bytes_of n d) i ≡ d i
unfolding bytes_of bit_of byte_of
bits-bytes n d h i l =
    let k : i / 8 < n = omega arith in
    let m : 7 - i % 8 ≡ 8 - 1 - i % 8 = omega arith in
    let e : 8 * (i / 8) + i % 8 ≡ i = omega arith in
    rw (get_or-tabulate n (λ k. pack 8 (λ j. d (8 * k + j))) (i / 8) 0 k, m)
    (bit-pack 8 (λ j. d (8 * (i / 8) + j)) (λ j b. h (8 * (i / 8) + j) (omega arith)) (i % 8) (omega arith) ∙ ap d e)

-- the bytes of some bytes' bits are those bytes
pub bytes_bits : (bytes : List ℕ) → ((k : ℕ) → get_or bytes k 0 < 256) → bytes_of (length bytes) (bit_of bytes) ≡ bytes
unfolding bytes_of
bytes_bits bytes h = sym (tabulate-of (length bytes) (byte_of (bit_of bytes)) 0 bytes refl (λ k l. sym (byte-bits bytes k (h k))))

-- two lists of as many bytes with the same bits are the same
pub same_bits : (n : ℕ) (d e : ℕ → ℕ) → ((i : ℕ) → i < 8 * n → d i ≡ e i) → bytes_of n d ≡ bytes_of n e
unfolding bytes_of byte_of
same_bits n d e h = tabulate-ext n _ _ (λ k l. pack-ext 8 _ _ (λ j b. h (8 * k + j) (omega arith)))

-- ---- fields of some bytes

-- bytes of the same bits, written
pub bytes-ext : (n : ℕ) (d e : ℕ → ℕ) → ((i : ℕ) → i < 8 * n → d i ≡ e i) → (out : List ℕ) → written n (byte_of d) out ≡ written n (byte_of e) out
unfolding byte_of
bytes-ext n d e h out =
    written-ext n (byte_of d) (byte_of e) out (λ k l. pack-ext 8 (λ j. d (8 * k + j)) (λ j. e (8 * k + j)) (λ j m. h (8 * k + j) (omega arith)))

-- the bits of bytes that were written
pub written-bits : (n : ℕ) (d : ℕ → ℕ) (was bytes : List ℕ) → Binary (8 * n) d → bytes ≡ written n (byte_of d) was → (i : ℕ) → i < 8 * n → bit_of bytes i ≡ d i
unfolding bit_of bytes_of
written-bits n d was bytes b e i h =
    ap (λ (m : ℕ). bit_at (7 - i % 8) m)
    (ap (λ (l : List ℕ). get_or l (i / 8) 0) e ∙ get_or-written n (byte_of d) was (i / 8) 0 (omega arith) ∙ sym (get_or-tabulate n (byte_of d) (i / 8) 0 (omega arith)))
    ∙ bits-bytes n d b i h

-- no bits are the number 0
pub field-none : (bytes : List ℕ) (at : ℕ) → field bytes at 0 ≡ 0
unfolding field pack
field-none bytes at = refl

pub field-append : (bytes : List ℕ) (at n m : ℕ) → field bytes at (n + m) ≡ field bytes at n * 2 ^ m + field bytes (at + n) m
unfolding field
field-append bytes at n m =
    pack-append n m (λ j. bit_of bytes (at + j)) ∙ ap (λ (k : ℕ). pack n (λ j. bit_of bytes (at + j)) * 2 ^ m + k) (pack-ext m _ _ (λ j h. ap (bit_of bytes) (sym (add_assoc at n j))))

pub field-byte : (bytes : List ℕ) (k : ℕ) → get_or bytes k 0 < 256 → field bytes (8 * k) 8 ≡ get_or bytes k 0
unfolding field byte_of
field-byte bytes k h = byte-bits bytes k h

pub field_lt : (bytes : List ℕ) (at n : ℕ) → field bytes at n < 2 ^ n
unfolding field
field_lt bytes at n = pack-lt n (λ j. bit_of bytes (at + j)) (λ j h. bit-binary bytes (at + j))

-- a field of fewer than eight bytes leaves room for one more
pub field_room : (bytes : List ℕ) (at k n : ℕ) → k < n → n ≤ 8 → field bytes at (8 * k) < 2 ^ 56
field_room bytes at k n h l = omega (arith, field_lt bytes at (8 * k), pow_mono {i = 8 * k} {j = 56} (omega arith))

-- one byte more
pub field_next : (bytes : List ℕ) → ((i : ℕ) → get_or bytes i 0 < 256) → (at k x : ℕ) → x ≡ field bytes (8 * at) (8 * k)
    → x * 256 + get_or bytes (at + k) 0 ≡ field bytes (8 * at) (8 * (k + 1))
field_next bytes small at k x e =
    let w : 8 * (k + 1) ≡ 8 * k + 8 = omega arith in
    let a : 8 * at + 8 * k ≡ 8 * (at + k) = omega arith in
    rw (w, field-append bytes (8 * at) (8 * k) 8, a, field-byte bytes (at + k) (small (at + k)), e)

-- the last n bytes of a number's eight, the highest first
pub last-bytes : (n number : ℕ) → n ≤ 8
    → take (8 - (8 - n)) (drop (8 - n) (to_be_bytes w64 number)) ≡ tabulate n (λ k. number / 2 ^ (8 * (n - 1 - k)) % 256)
last-bytes n number h =
    take_all (8 - (8 - n)) (drop (8 - n) (to_be_bytes w64 number)) (omega (arith, length-drop (8 - n) (to_be_bytes w64 number)))
    ∙ tabulate-of n _ 0 (drop (8 - n) (to_be_bytes w64 number)) (omega (arith, length-drop (8 - n) (to_be_bytes w64 number))) at
  where
    byte : (i : ℕ) → i < 8 → get_or (to_be_bytes w64 number) i 0 ≡ number / 2 ^ (8 * (7 - i)) % 256
    byte zero l = refl
    byte (suc zero) l = refl
    byte (suc (suc zero)) l = refl
    byte (suc (suc (suc zero))) l = refl
    byte (suc (suc (suc (suc zero)))) l = refl
    byte (suc (suc (suc (suc (suc zero))))) l = refl
    byte (suc (suc (suc (suc (suc (suc zero)))))) l = refl
    byte (suc (suc (suc (suc (suc (suc (suc zero))))))) l = omega arith
    byte (suc (suc (suc (suc (suc (suc (suc (suc i)))))))) l = absurd (omega arith)

    at : (k : ℕ) → k < n → get_or (drop (8 - n) (to_be_bytes w64 number)) k 0 ≡ number / 2 ^ (8 * (n - 1 - k)) % 256
    at k l =
        let e : 7 - (8 - n + k) ≡ n - 1 - k = omega arith in
        get_or-drop (8 - n) (to_be_bytes w64 number) k 0 ∙ byte (8 - n + k) (omega arith) ∙ ap (λ (j : ℕ). number / 2 ^ (8 * j) % 256) e

-- a field within a longer one
pub field-within : (bytes : List ℕ) (at w rest : ℕ) → field bytes 0 (at + w + rest) / 2 ^ rest % 2 ^ w ≡ field bytes at w
field-within bytes at w rest =
    ap (λ (x : ℕ). x / 2 ^ rest % 2 ^ w) (field-append bytes 0 (at + w) rest)
    ∙ ap (λ (x : ℕ). x % 2 ^ w) (high (field bytes 0 (at + w)) rest (field_lt bytes (0 + (at + w)) rest))
    ∙ ap (λ (x : ℕ). x % 2 ^ w) (field-append bytes 0 at w)
    ∙ low (field bytes 0 at) w (field_lt bytes (0 + at) w)
    ∙ ap (λ (x : ℕ). field bytes x w) (zero-add at)
