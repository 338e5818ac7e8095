-- Laws of the scrambler: its bits are binary, a block keeps its length, and scrambling twice gives the block back.
-- Assumes nothing.
use mathlib.Core.Path.{◌≡◌, sym, ap, ap₂, ◌∙◌}
use mathlib.Core.List.{List, ◌++◌}
use Prim.Native.Nat.{ℕ, zero, suc, ◌+◌, ◌-◌, ◌*◌, ◌<◌, ◌≤◌}
use native.Mathlib.Nat.{add-zero, add-suc}
use native.Mathlib.Numerals.{add-one}
use native.Mathlib.Omega.{arith}
use lib.Bits.{bit_xor, xor_lt}
use lib.Dec.{lit≤}
use lib.ListN.{length, get_or, drop, get_or-append}
use lib.Seq.{drop_at}
use Rattle.bits.specs.Lists.{written}
use Rattle.bits.specs.Bits.{bit_of, pack, byte_of, bytes_of}
use Rattle.bits.proofs.BitLaws.{Binary, pack-ext, xor-cancel, pack-xor, length-bytes, byte-bits, bit-binary, bits-bytes, bytes_bits, same_bits}
use Rattle.bits.proofs.ListLaws.{tabulate-ext}
use Rattle.bits.proofs.RangeLaws.{agree, agree₃}
use Rattle.scrambler.specs.Scrambler.{stage, feedback, shifted, after_shifts, scrambler_bit, all_ones, scrambler_byte, scrambled, scramble}

-- ---- the register

pub feedback-binary : (r : ℕ) → feedback r < 2
unfolding feedback
feedback-binary r = xor_lt 1 (stage 3 r) (stage 10 r) (omega arith) (omega arith)

pub scrambler-binary : (r n : ℕ) → scrambler_bit r n < 2
unfolding scrambler_bit
scrambler-binary r n = feedback-binary _

-- one shift more
pub after_next : (r n : ℕ) → after_shifts r (n + 1) ≡ shifted (after_shifts r n)
unfolding after_shifts
after_next r n = rw add-one

-- n shifts, and then m
pub after-add : (r n m : ℕ) → after_shifts r (n + m) ≡ after_shifts (after_shifts r n) m
unfolding after_shifts
after-add r n zero = rw add-zero
after-add r n (suc m) = rw (add-suc, after-add r n m)

-- eight shifts more, from a register that has done those of n bytes
pub after-byte : (r n : ℕ) {q : ℕ} → q ≡ after_shifts r (8 * n) → after_shifts q 8 ≡ after_shifts r (8 * (n + 1))
after-byte r n e =
    let next : 8 * (n + 1) ≡ 8 * n + 8 = omega arith in
    rw (e, next, after-add r (8 * n) 8)

-- bit m of the register after n shifts
pub scrambler-add : (r n m : ℕ) → scrambler_bit (after_shifts r n) m ≡ scrambler_bit r (n + m)
unfolding scrambler_bit
scrambler-add r n m = rw (after-add r n m)

-- the byte that eight steps give, from a register that has done those of n bytes
pub register-byte : (n : ℕ) {q : ℕ} → q ≡ after_shifts all_ones (8 * n) → pack 8 (scrambler_bit q) ≡ scrambler_byte n
unfolding byte_of scrambler_byte
register-byte n e = rw e (pack-ext 8 _ _ (λ j l. scrambler-add all_ones (8 * n) j))

-- ---- a byte from earlier bytes

-- a register stays within its ten stages
after-lt : (n : ℕ) → after_shifts all_ones n < 1024
unfolding after_shifts shifted
after-lt zero = omega arith
after-lt (suc n) = omega (arith, feedback-binary (after_shifts all_ones n))

-- each bit is the exclusive-or of the bit `far` before it and the bit `near` after that one
abbrev Follows : ℕ → ℕ → Type 0
Follows near far = (n : ℕ) → scrambler_bit all_ones (n + far) ≡ bit_xor (scrambler_bit all_ones n) (scrambler_bit all_ones (n + near))

-- stages 10 and 3 hold the bits that entered ten and three shifts before, as a test at every register shows
every-register : (r : ℕ) → r < 1024 → scrambler_bit r 10 ≡ bit_xor (scrambler_bit r 0) (scrambler_bit r 7)
unfolding scrambler_bit feedback after_shifts shifted
every-register = agree 1024 (λ r. scrambler_bit r 10) (λ r. bit_xor (scrambler_bit r 0) (scrambler_bit r 7)) tt

follows-ten : Follows 7 10
unfolding scrambler_bit after_shifts
follows-ten n =
    sym (scrambler-add all_ones n 10) ∙ every-register (after_shifts all_ones n) (after-lt n)
    ∙ ap (bit_xor (scrambler_bit all_ones n)) (scrambler-add all_ones n 7)

differ-twice : (x y z : ℕ) → x < 2 → y < 2 → z < 2 → bit_xor (bit_xor x y) (bit_xor y z) ≡ bit_xor x z
differ-twice = agree₃ 2 2 2 (λ x y z. bit_xor (bit_xor x y) (bit_xor y z)) (λ x y z. bit_xor x z) tt

-- squared: the same at twice the distances
follows-twice : (near far : ℕ) → Follows near far → Follows (2 * near) (2 * far)
follows-twice near far h n =
    let b : ℕ → ℕ = scrambler_bit all_ones in
    let both : n + 2 * far ≡ n + far + far = omega arith in
    let middle : n + far + near ≡ n + near + far = omega arith in
    let last : n + near + near ≡ n + 2 * near = omega arith in
    ap b both ∙ h (n + far) ∙ ap₂ bit_xor (h n) (ap b middle ∙ h (n + near))
    ∙ differ-twice (b n) (b (n + near)) (b (n + near + near))
    (scrambler-binary all_ones _) (scrambler-binary all_ones _) (scrambler-binary all_ones _)
    ∙ ap (λ (m : ℕ). bit_xor (b n) (b m)) last

-- at distances in bytes it holds of bytes
byte-follows : (near far : ℕ) → near ≤ far → Follows (8 * (far - near)) (8 * far)
    → (i : ℕ) → far ≤ i → bit_xor (scrambler_byte (i - far)) (scrambler_byte (i - near)) ≡ scrambler_byte i
unfolding byte_of scrambler_byte
byte-follows near far l law i h =
    sym
    (pack-ext 8 _ (λ j. bit_xor (scrambler_bit all_ones (8 * (i - far) + j)) (scrambler_bit all_ones (8 * (i - near) + j))) bits
    ∙ pack-xor 8 _ _ (λ j l. scrambler-binary all_ones (8 * (i - far) + j)) (λ j l. scrambler-binary all_ones (8 * (i - near) + j)))
  where
    bits : (j : ℕ) → j < 8
        → scrambler_bit all_ones (8 * i + j) ≡ bit_xor (scrambler_bit all_ones (8 * (i - far) + j)) (scrambler_bit all_ones (8 * (i - near) + j))
    bits j b =
        let at : 8 * i + j ≡ 8 * (i - far) + j + 8 * far = omega arith in
        let after : 8 * (i - far) + j + 8 * (far - near) ≡ 8 * (i - near) + j = omega arith in
        ap (scrambler_bit all_ones) at ∙ law (8 * (i - far) + j)
        ∙ ap (λ (m : ℕ). bit_xor (scrambler_bit all_ones (8 * (i - far) + j)) (scrambler_bit all_ones m)) after

-- squared three times, and three times more
follows-eighty : Follows 56 80
follows-eighty = follows-twice 28 40 (follows-twice 14 20 (follows-twice 7 10 follows-ten))

pub byte-follows-ten : (i : ℕ) → 10 ≤ i → bit_xor (scrambler_byte (i - 10)) (scrambler_byte (i - 3)) ≡ scrambler_byte i
byte-follows-ten = byte-follows 3 10 (lit≤ tt) follows-eighty

pub byte-follows-eighty : (i : ℕ) → 80 ≤ i → bit_xor (scrambler_byte (i - 80)) (scrambler_byte (i - 24)) ≡ scrambler_byte i
byte-follows-eighty = byte-follows 24 80 (lit≤ tt) (follows-twice 224 320 (follows-twice 112 160 (follows-twice 56 80 follows-eighty)))

-- ---- bits

pub scrambled-binary : (d : ℕ → ℕ) (i : ℕ) → d i < 2 → scrambled d i < 2
unfolding scrambled
scrambled-binary d i h = xor_lt 1 (d i) (scrambler_bit all_ones i) h (scrambler-binary all_ones i)

-- a scrambled bit depends on its own data bit alone
pub scrambled-at : (d e : ℕ → ℕ) (i : ℕ) → d i ≡ e i → scrambled d i ≡ scrambled e i
unfolding scrambled
scrambled-at d e i h = ap (λ (b : ℕ). bit_xor b (scrambler_bit all_ones i)) h

-- descrambling: the same act on the scrambled bits gives the data back
pub scrambled-twice : (d : ℕ → ℕ) (i : ℕ) → scrambled (scrambled d) i ≡ d i
unfolding scrambled
scrambled-twice d i = xor-cancel (d i) (scrambler_bit all_ones i)

-- ---- blocks

-- the scrambled bits of a block are binary
pub block-binary : (bytes : List ℕ) (n : ℕ) → Binary n (scrambled (bit_of bytes))
block-binary bytes n j l = scrambled-binary (bit_of bytes) j (bit-binary bytes j)

-- byte k of a scrambled block is the byte with the scrambler's next eight bits
pub scrambled-byte : (bytes : List ℕ) (k : ℕ) → get_or bytes k 0 < 256
    → bit_xor (get_or bytes k 0) (scrambler_byte k) ≡ byte_of (scrambled (bit_of bytes)) k
unfolding byte_of scrambled scrambler_byte
scrambled-byte bytes k h =
    sym
    (pack-xor 8 (λ j. bit_of bytes (8 * k + j)) (λ j. scrambler_bit all_ones (8 * k + j))
    (λ j l. bit-binary bytes (8 * k + j)) (λ j l. scrambler-binary all_ones (8 * k + j))
    ∙ ap (λ (b : ℕ). bit_xor b (scrambler_byte k)) (byte-bits bytes k h))

-- the scrambler's bytes are put first, and the block's are added
pub scramble-added : (bytes out run now : List ℕ) → ((k : ℕ) → get_or bytes k 0 < 256)
    → length run ≡ length bytes → ((k : ℕ) → k < length run → get_or run k 0 ≡ scrambler_byte k)
    → now ≡ written (length bytes) (λ k. bit_xor (get_or bytes k 0) (get_or (run ++ drop (length bytes) out) k 0)) (run ++ drop (length bytes) out)
    → now ≡ scramble bytes ++ drop (length bytes) out
unfolding scramble bytes_of written
scramble-added bytes out run now small same held e =
    e ∙ (rw (drop_at run (drop (length bytes) out) (length bytes) same)
    (ap (λ (l : List ℕ). l ++ drop (length bytes) out) (tabulate-ext (length bytes) _ _ added)))
  where
    added : (k : ℕ) → k < length bytes → bit_xor (get_or bytes k 0) (get_or (run ++ drop (length bytes) out) k 0) ≡ byte_of (scrambled (bit_of bytes)) k
    added k h =
        let l : k < length run = omega (arith, same) in
        ap (bit_xor (get_or bytes k 0)) (get_or-append run (drop (length bytes) out) 0 k l ∙ held k l) ∙ scrambled-byte bytes k (small k)

pub length-scramble : (bytes : List ℕ) → length (scramble bytes) ≡ length bytes
unfolding scramble
length-scramble bytes = length-bytes (length bytes) (scrambled (bit_of bytes))

-- bit i of a scrambled block is bit i of the block, scrambled
pub bits-scramble : (bytes : List ℕ) (i : ℕ) → i < 8 * length bytes → bit_of (scramble bytes) i ≡ scrambled (bit_of bytes) i
unfolding scramble
bits-scramble bytes = bits-bytes (length bytes) (scrambled (bit_of bytes)) (block-binary bytes (8 * length bytes))

-- scrambling packed bits is packing scrambled bits
pub scramble-bytes : (n : ℕ) (d : ℕ → ℕ) → Binary (8 * n) d → scramble (bytes_of n d) ≡ bytes_of n (scrambled d)
unfolding scramble
scramble-bytes n d h =
    ap (λ (m : ℕ). bytes_of m (scrambled (bit_of (bytes_of n d)))) (length-bytes n d)
    ∙ same_bits n (scrambled (bit_of (bytes_of n d))) (scrambled d) (λ i l. scrambled-at (bit_of (bytes_of n d)) d i (bits-bytes n d h i l))

-- descrambling a block: the same act gives its bytes back
pub scramble-twice : (bytes : List ℕ) → ((k : ℕ) → get_or bytes k 0 < 256) → scramble (scramble bytes) ≡ bytes
unfolding scramble
scramble-twice bytes h =
    scramble-bytes (length bytes) (scrambled (bit_of bytes)) (block-binary bytes (8 * length bytes))
    ∙ same_bits (length bytes) (scrambled (scrambled (bit_of bytes))) (bit_of bytes) (λ i l. scrambled-twice (bit_of bytes) i)
    ∙ bytes_bits bytes h
