-- The kept parity bits: that they are bits, which data they ask for, and that the encoders and puncturing give them. Assumes nothing.
use mathlib.Core.Path.{◌≡◌, refl, sym, ap, ap₂, ◌∙◌}
use mathlib.Core.Bool.{Bool, true, false, cond}
use mathlib.Core.List.{List}
use Prim.Native.Nat.{ℕ, zero, suc, ◌+◌, ◌-◌, ◌*◌, ◌/◌, ◌%◌, ◌^◌, ◌≤◌, ◌<◌}
use native.Mathlib.Omega.{arith}
use lib.Dec.{eqb}
use lib.ListN.{length, get_or}
use Rattle.bits.specs.Bits.{bit_of, pack, byte_of}
use Rattle.bits.specs.Lists.{written}
use Rattle.bits.proofs.ListLaws.{length-written, get_or-written}
use Rattle.bits.proofs.BitLaws.{bytes-ext, written-bits}
use Rattle.card.specs.Modes.{block_bytes}
use Rattle.constituent.specs.Pairs.{pair_count, pair_at}
use Rattle.constituent.specs.Loops.Bytes.{four_from}
use Rattle.constituent.specs.Encoder.{parity_at}
use Rattle.constituent.specs.Loops.Passes.{multiplexed, Blocks}
use Rattle.constituent.proofs.StateLaws.{parity-lt, parity-ext}
use Rattle.constituent.proofs.PairLaws.{pair_lt, pair_read, four-read}
use Rattle.constituent.proofs.PassLaws.{multiplexed-first, multiplexed-second, multiplexed-lt}
use Rattle.pair_interleaver.specs.Interleave.{source_pair, exchanged_at, interleaved_by, interleaved}
use Rattle.pair_interleaver.proofs.InterleaveLaws.{source-pair-permutes}
use Rattle.turbo.specs.Puncture.{pattern, kept_time, kept_count}
use Rattle.turbo.specs.Loops.Keeping.{kept_from, two_rows, punctured, Inputs}
use Rattle.turbo.specs.Parity.{input_of, kept_bit}
use Rattle.turbo.proofs.PunctureLaws.{time-lt, time-first, time-second, every-eighth, all-count, all-time}

-- ---- for callers

-- a kept parity bit is a bit
pub kept-binary : (kind rate taps : ℕ) (d : ℕ → ℕ) (i : ℕ) → kept_bit kind rate taps d i < 2
unfolding kept_bit
kept-binary kind rate taps d i = parity-lt kind taps (input_of kind d (i % 2)) (kept_time kind rate (i / 2))

-- kept parity bits 2 n and 2 n + 1 at rate 16/18 are bits 2 t and 2 t + 1 of the parity at rate 1/2, with t = 8 n + 7
pub kept-among-all : (kind taps : ℕ) (d : ℕ → ℕ) (n e : ℕ) → 8 * n + 7 < pair_count kind → e < 2
    → kept_bit kind 1 taps d (2 * n + e) ≡ kept_bit kind 0 taps d (2 * (8 * n + 7) + e)
unfolding kept_bit
kept-among-all kind taps d n e h l =
    let t : ℕ = 8 * n + 7 in
    let side : (2 * n + e) % 2 ≡ (2 * t + e) % 2 = omega arith in
    let here : (2 * n + e) / 2 ≡ n = omega arith in
    let there : t ≡ (2 * t + e) / 2 = omega arith in
    ap₂ (λ (q : ℕ) (m : ℕ). parity_at kind taps (input_of kind d q) m) side
    (ap (kept_time kind 1) here ∙ every-eighth kind n h ∙ sym (all-time kind 0 refl t h) ∙ ap (kept_time kind 0) there)

module _ (kind : ℕ) (hk : kind < 5) (d e : ℕ → ℕ) (same : (i : ℕ) → i < 8 * block_bytes kind → d i ≡ e i) where
  pair-ext : (t : ℕ) → t < pair_count kind → pair_at d t ≡ pair_at e t
  unfolding pair_at
  pair-ext t h = rw (same (2 * t) (omega arith), same (2 * t + 1) (omega arith))

  input-ext : (n t : ℕ) → t < pair_count kind → input_of kind d n t ≡ input_of kind e n t
  unfolding input_of interleaved interleaved_by source_pair
  input-ext zero t h = pair-ext t h
  input-ext (suc n) t h = ap (exchanged_at t) (pair-ext (source_pair kind t) ((source-pair-permutes kind hk).below t h))

  -- the kept parity bits ask only for the data bits of the block
  pub kept-ext : (rate taps i : ℕ) → i < kept_count kind rate → kept_bit kind rate taps d i ≡ kept_bit kind rate taps e i
  unfolding kept_bit
  kept-ext rate taps i h =
      parity-ext kind taps (input_of kind d (i % 2)) (input_of kind e (i % 2)) (input-ext (i % 2)) (kept_time kind rate (i / 2)) (time-lt kind rate i h)

-- ---- what the encoders read

-- interleaved pairs are pairs
interleaved-lt : (kind : ℕ) (bytes : List ℕ) (t : ℕ) → interleaved kind (pair_at (bit_of bytes)) t < 4
unfolding interleaved interleaved_by exchanged_at
interleaved-lt kind bytes t = go (eqb (t % 2) 0) _ (pair_lt bytes _)
  where
    go : (b : Bool) (u : ℕ) → u < 4 → cond b (u / 1 % 2 * 2 + u / 2 % 2) u < 4
    go true u h = omega arith
    go false u h = h

-- the encoders' bytes, once the interleaved pairs are packed
pub inputs : (kind : ℕ) (bytes was second : List ℕ) → kind < 5 → length bytes ≡ block_bytes kind → block_bytes kind ≤ length was
    → second ≡ written (block_bytes kind) (four_from (interleaved kind (pair_at (bit_of bytes)))) was → Inputs kind bytes second
inputs kind bytes was second hk hb hw e =
    record {
      defined = hk;
      whole = hb;
      room = rw (e, length-written (block_bytes kind) (four_from (interleaved kind (pair_at (bit_of bytes)))) was) hw;
      held = λ t h.
          sym (pair_read second t)
          ∙ ap (λ (m : ℕ). m / 2 ^ (6 - 2 * (t % 4)) % 4)
          (ap (λ (l : List ℕ). get_or l (t / 4) 0) e ∙ get_or-written (block_bytes kind) (four_from (interleaved kind (pair_at (bit_of bytes)))) was (t / 4) 0 (omega arith))
          ∙ four-read (interleaved kind (pair_at (bit_of bytes))) (interleaved-lt kind bytes) t;
    }

pub blocks : (kind : ℕ) (bytes second : List ℕ) → Inputs kind bytes second → Blocks kind bytes second
blocks kind bytes second I = record { defined = I.defined; whole = I.whole; room = I.room }

-- ---- what puncturing gives

punctured-ext : (kind rate : ℕ) (f g : ℕ → ℕ) → ((i : ℕ) → i < 8 * block_bytes kind → f i ≡ g i) → (i : ℕ) → i < kept_count kind rate
    → punctured kind rate f i ≡ punctured kind rate g i
unfolding punctured
punctured-ext kind rate f g e i h = e (2 * kept_time kind rate (i / 2) + i % 2) (omega (arith, time-lt kind rate i h))

-- a byte is four pairs
byte-pairs : (f : ℕ → ℕ) (i : ℕ) → four_from (pair_at f) i ≡ byte_of f i
unfolding byte_of pack pair_at
byte-pairs f i =
    let a : 2 * (4 * i) ≡ 8 * i + 0 = omega arith in
    let b : 2 * (4 * i) + 1 ≡ 8 * i + 1 = omega arith in
    let c : 2 * (4 * i + 1) ≡ 8 * i + 2 = omega arith in
    let d : 2 * (4 * i + 1) + 1 ≡ 8 * i + 3 = omega arith in
    let e : 2 * (4 * i + 2) ≡ 8 * i + 4 = omega arith in
    let g : 2 * (4 * i + 2) + 1 ≡ 8 * i + 5 = omega arith in
    let h : 2 * (4 * i + 3) ≡ 8 * i + 6 = omega arith in
    let j : 2 * (4 * i + 3) + 1 ≡ 8 * i + 7 = omega arith in
    omega (arith, ap f a, ap f b, ap f c, ap f d, ap f e, ap f g, ap f h, ap f j)

-- the pair that is kept after n others
punctured-pair : (kind rate : ℕ) (b : ℕ → ℕ) (n : ℕ) → pair_at (punctured kind rate b) n ≡ pair_at b (kept_time kind rate n)
unfolding punctured pair_at
punctured-pair kind rate b n =
    let c : 2 * n / 2 ≡ n = omega arith in
    let d : 2 * n % 2 ≡ 0 = omega arith in
    let e : (2 * n + 1) / 2 ≡ n = omega arith in
    let f : (2 * n + 1) % 2 ≡ 1 = omega arith in
    let z : 2 * kept_time kind rate n + 0 ≡ 2 * kept_time kind rate n = omega arith in
    rw (c, d, e, f, z)

-- two rows, of which two places each are kept, give a byte
pub rows-byte : (kind rate : ℕ) (p : ℕ → ℕ) (i a c : ℕ) → rate ≡ 1 → a ≡ kept_from rate 0 → c ≡ kept_from rate (a + 1) → 32 * i + 32 ≤ pair_count kind
    → two_rows (pair_at p) (32 * i) a c ≡ byte_of (punctured kind rate p) i
rows-byte kind rate p i a c e ha hc h =
    let first : a ≡ kept_from 1 0 = ha ∙ ap (λ (r : ℕ). kept_from r 0) e in
    let second : c ≡ kept_from 1 (kept_from 1 0 + 1) = hc ∙ ap₂ (λ (r k : ℕ). kept_from r (k + 1)) e first in
    let at : (n t : ℕ) → kept_time kind 1 n ≡ t → pair_at p t ≡ pair_at (punctured kind rate p) n =
    λ n t q. sym (punctured-pair kind rate p n ∙ ap (λ (r : ℕ). pair_at p (kept_time kind r n)) e ∙ ap (pair_at p) q) in
    let q1 = at (4 * i) (32 * i + a) (ap (kept_time kind 1) (omega arith) ∙ time-first kind (2 * i) (omega arith) ∙ omega (arith, first)) in
    let q2 = at (4 * i + 1) (32 * i + c) (ap (kept_time kind 1) (omega arith) ∙ time-second kind (2 * i) (omega arith) ∙ omega (arith, second)) in
    let q3 = at (4 * i + 2) (32 * i + 16 + a) (ap (kept_time kind 1) (omega arith) ∙ time-first kind (2 * i + 1) (omega arith) ∙ omega (arith, first)) in
    let q4 = at (4 * i + 3) (32 * i + 16 + c) (ap (kept_time kind 1) (omega arith) ∙ time-second kind (2 * i + 1) (omega arith) ∙ omega (arith, second)) in
    omega (arith, q1, q2, q3, q4) ∙ byte-pairs (punctured kind rate p) i

-- where all are kept they stay as they are
punctured-all : (kind rate : ℕ) (b : ℕ → ℕ) → pattern rate ≡ 65535 → (i : ℕ) → i < 8 * block_bytes kind → b i ≡ punctured kind rate b i
unfolding punctured
punctured-all kind rate b e i h =
    let z : 2 * (i / 2) + i % 2 ≡ i = omega arith in
    ap b (sym z ∙ ap (λ (t : ℕ). 2 * t + i % 2) (sym (all-time kind rate e (i / 2) (omega arith))))

module _ (kind rate taps : ℕ) (bytes second : List ℕ) (I : Inputs kind bytes second) where
  -- the parity bits of both encoders in turn
  abbrev both : ℕ → ℕ
  both = multiplexed kind taps (pair_at (bit_of bytes)) (pair_at (bit_of second))

  encoder-bit : (e t : ℕ) → e < 2 → t < pair_count kind → both (2 * t + e) ≡ parity_at kind taps (input_of kind (bit_of bytes) e) t
  unfolding input_of
  encoder-bit zero t h l =
      multiplexed-first kind taps (pair_at (bit_of bytes)) (pair_at (bit_of second)) (2 * t + 0) t (omega arith)
      ∙ parity-ext kind taps (pair_at (bit_of bytes)) (input_of kind (bit_of bytes) 0) (λ k b. refl) t l
  encoder-bit (suc zero) t h l =
      multiplexed-second kind taps (pair_at (bit_of bytes)) (pair_at (bit_of second)) (2 * t + 1) t (omega arith)
      ∙ parity-ext kind taps (pair_at (bit_of second)) (input_of kind (bit_of bytes) 1) I.held t l
  encoder-bit (suc (suc e)) t h l = absurd (omega arith)

  both-kept : (i : ℕ) → i < kept_count kind rate → punctured kind rate both i ≡ kept_bit kind rate taps (bit_of bytes) i
  unfolding punctured kept_bit
  both-kept i h = encoder-bit (i % 2) (kept_time kind rate (i / 2)) (omega arith) (time-lt kind rate i h)

  -- a rate that keeps all
  pub kept-all-bytes : (out last : List ℕ) → pattern rate ≡ 65535 → last ≡ written (block_bytes kind) (byte_of both) out
      → last ≡ written (kept_count kind rate / 8) (byte_of (kept_bit kind rate taps (bit_of bytes))) out
  kept-all-bytes out last e f =
      let n : block_bytes kind ≡ kept_count kind rate / 8 = omega (arith, all-count kind rate e) in
      f
      ∙ bytes-ext (block_bytes kind) both (kept_bit kind rate taps (bit_of bytes)) (λ i h.
      punctured-all kind rate both e i h ∙ both-kept i (omega (arith, all-count kind rate e))) out
      ∙ ap (λ (k : ℕ). written k (byte_of (kept_bit kind rate taps (bit_of bytes))) out) n

  -- the bits of the packed bytes are the parity bits again
  packed-bits : (was packed : List ℕ) → packed ≡ written (block_bytes kind) (byte_of both) was → (i : ℕ) → i < 8 * block_bytes kind → bit_of packed i ≡ both i
  packed-bits was packed e i h =
      written-bits (block_bytes kind) both was packed (λ j l. multiplexed-lt kind taps (pair_at (bit_of bytes)) (pair_at (bit_of second)) j) e i h

  -- and what is kept of them
  pub kept-some-bytes : (was packed out last : List ℕ) → packed ≡ written (block_bytes kind) (byte_of both) was
      → last ≡ written (kept_count kind rate / 8) (byte_of (punctured kind rate (bit_of packed))) out
      → last ≡ written (kept_count kind rate / 8) (byte_of (kept_bit kind rate taps (bit_of bytes))) out
  kept-some-bytes was packed out last e f =
      f
      ∙ bytes-ext (kept_count kind rate / 8) (punctured kind rate (bit_of packed)) (kept_bit kind rate taps (bit_of bytes)) (λ i h.
      punctured-ext kind rate (bit_of packed) both (packed-bits was packed e) i (omega arith) ∙ both-kept i (omega arith)) out
