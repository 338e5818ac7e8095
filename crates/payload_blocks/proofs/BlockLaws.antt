-- Laws of a payload's blocks: where a block's coded bits stand, that its finding goes by them alone, what clean bits are found to be, and
-- what the findings of all blocks come to. Assumes nothing.
use mathlib.Core.Bool.{Bool, true, false, cond}
use mathlib.Core.List.{List, ◌++◌}
use mathlib.Core.Logic.{◌⊎◌, inl, inr}
use mathlib.Core.Path.{◌≡◌, refl, sym, ap, ap₂, ◌∙◌}
use Prim.Native.Nat.{ℕ, ◌+◌, ◌*◌, ◌/◌, ◌%◌, ◌<◌}
use native.Mathlib.Nat.{mod-lt, div-add-mod', div-lt_iff_lt-mul}
use native.Mathlib.Omega.{arith}
use lib.Arith.{digits_div, digits_mod}
use lib.Dec.{ltb, ltb→lt}
use lib.ListN.{length, get_or, drop}
use lib.Seq.{get_or-take, get_or-drop}
use Rattle.bits.specs.Bits.{bit_of, bytes_of}
use Rattle.bits.proofs.NumberLaws.{row_within}
use Rattle.bits.proofs.BitLaws.{same_bits, bytes_bits}
use Rattle.bits.proofs.ListLaws.{written-ext, written-put}
use Rattle.bits.proofs.RangeLaws.{at_each}
use Rattle.refusal.specs.declared.Refusal.{Refusal}
use Rattle.refusal.specs.declared.Refusal.TheVariants.{Majority, Parity}
use Rattle.refusal.specs.Report.{Report, done, refused, refusal, number}
use Rattle.refusal.specs.Outcome.{Row, first_applicable, reported}
use Rattle.refusal.proofs.OutcomeLaws.{NoneApplies, done-same, reported-done, reported-good}
use Rattle.card.specs.Modes.{block_bytes, Defined}
use Rattle.scrambler.specs.Scrambler.{scrambled}
use Rattle.scrambler.proofs.ScramblerLaws.{scrambled-at, scrambled-twice, block-binary}
use Rattle.interleaver_shape.specs.Shapes.{coded_bits}
use Rattle.fec.specs.Coding.{data_bits, coded_bit}
use Rattle.fec.proofs.CodingLaws.{coded-binary}
use Rattle.recovery.specs.Recovery.{data_bit, first_undecided, disagreeing}
use Rattle.recovery.proofs.RecoveryLaws.{clean-data, clean-rows, data-ext, rows_ext}
use Rattle.payload_blocks.specs.Blockwise.{outcome_by, blockwise}
use Rattle.payload_blocks.specs.Blocks.{block_of, block_bit, joined_bit, bits_of_block, bytes_found, block_rows, found, payload_found, recovered_all}
use Rattle.payload_blocks.proofs.BlockwiseLaws.{refused-over, done-over, outcome-by-good, none-blockwise, blockwise-refused, blockwise-ext}

-- ---- parts of a list

-- every block has some bytes
pub some_bytes : (kind : ℕ) → kind < 5 → 0 < block_bytes kind
some_bytes kind h = ltb→lt 0 (block_bytes kind) (at_each 5 (λ k. ltb 0 (block_bytes k)) tt kind h)

-- the block of byte i
pub block-lt : (kind n i : ℕ) → kind < 5 → i < n * block_bytes kind → i / block_bytes kind < n
block-lt kind n i k h = (div-lt_iff_lt-mul {x = i} {y = n} (some_bytes kind k)).1 h

-- element j of block b
pub block_at : (size : ℕ) (bytes : List ℕ) (b j : ℕ) → j < size → get_or (block_of size bytes b) j 0 ≡ get_or bytes (b * size + j) 0
block_at size bytes b j h = get_or-take size (drop (b * size) bytes) j 0 h ∙ get_or-drop (b * size) bytes j 0

-- ---- the joined bits

module _ (kind rate taps : ℕ) (payload : List ℕ) where
  -- coded bit i of block b
  pub joined_at : (b i : ℕ) → i < coded_bits kind rate
      → joined_bit kind rate taps payload (b * coded_bits kind rate + i) ≡ block_bit kind rate taps (block_of (block_bytes kind) payload b) i
  unfolding joined_bit
  joined_at b i h = ap₂ (λ (q r : ℕ). block_bit kind rate taps (block_of (block_bytes kind) payload q) r) (digits_div b h) (digits_mod b h)

  pub joined-binary : Defined kind rate → (x : ℕ) → joined_bit kind rate taps payload x < 2
  unfolding joined_bit block_bit
  joined-binary D x =
      let block = block_of (block_bytes kind) payload (x / coded_bits kind rate) in
      coded-binary kind rate D taps (scrambled (bit_of block)) (block-binary block (data_bits kind)) (x % coded_bits kind rate)

-- ---- a block's finding goes by its own bits

module _ (kind rate : ℕ) (D : Defined kind rate) (e f : ℕ → ℕ) where
  module _ (b : ℕ) (same : (i : ℕ) → i < coded_bits kind rate → bits_of_block kind rate e b i ≡ bits_of_block kind rate f b i) where
    bytes-ext : bytes_found kind rate e b ≡ bytes_found kind rate f b
    unfolding bytes_found
    bytes-ext =
        same_bits (block_bytes kind) _ _ (λ k h. scrambled-at _ _ k (data-ext kind rate D (bits_of_block kind rate e b) (bits_of_block kind rate f b) same k h))

    block-rows-ext : (taps : ℕ) → block_rows kind rate taps e b ≡ block_rows kind rate taps f b
    block-rows-ext taps = rows_ext kind rate D (bits_of_block kind rate e b) (bits_of_block kind rate f b) same taps

    pub found-ext : (taps : ℕ) → found kind rate taps e b ≡ found kind rate taps f b
    unfolding found
    found-ext taps = ap₂ (λ (rows : List Row) (l : List ℕ). reported rows l) (block-rows-ext taps) bytes-ext

  -- all blocks go by their bits
  pub all-ext : (n : ℕ) → ((x : ℕ) → x < n * coded_bits kind rate → e x ≡ f x) → (taps : ℕ) (out : List ℕ)
      → recovered_all kind rate taps n e out ≡ recovered_all kind rate taps n f out
  unfolding recovered_all payload_found
  all-ext n same taps out =
      ap₂ (λ (rows : List Row) (made : List ℕ). outcome_by rows out (n * block_bytes kind) made)
      (blockwise-ext (block_rows kind rate taps e) (block_rows kind rate taps f) n (λ b h. block-rows-ext b (in_block b h) taps))
      (written-ext (n * block_bytes kind) _ _ out (λ i h.
      let b = i / block_bytes kind in ap (λ (l : List ℕ). get_or l (i % block_bytes kind) 0) (bytes-ext b (in_block b (block-lt kind n i D.kind-lt h)))))
    where
      in_block : (b : ℕ) → b < n → (i : ℕ) → i < coded_bits kind rate → bits_of_block kind rate e b i ≡ bits_of_block kind rate f b i
      in_block b h i l = same (b * coded_bits kind rate + i) (omega (arith, row_within b (coded_bits kind rate) n h))

-- ---- clean bits

module _ (kind rate : ℕ) (D : Defined kind rate) (taps : ℕ) (e : ℕ → ℕ) (b : ℕ) (block : List ℕ) (long : length block ≡ block_bytes kind)
    (bytes : (i : ℕ) → get_or block i 0 < 256) (same : (i : ℕ) → i < coded_bits kind rate → bits_of_block kind rate e b i ≡ block_bit kind rate taps block i) where
  as-coded : (i : ℕ) → i < coded_bits kind rate → bits_of_block kind rate e b i ≡ coded_bit kind rate taps (scrambled (bit_of block)) i
  unfolding block_bit
  as-coded = same

  bytes-clean : bytes_found kind rate e b ≡ block
  unfolding bytes_found
  bytes-clean =
      let d = data_bit kind rate (bits_of_block kind rate e b) in
      let clean = clean-data kind rate D taps (scrambled (bit_of block)) (block-binary block (data_bits kind)) (bits_of_block kind rate e b) as-coded in
      same_bits (block_bytes kind) (scrambled d) (bit_of block) (λ i h. scrambled-at d (scrambled (bit_of block)) i (clean i h) ∙ scrambled-twice (bit_of block) i)
      ∙ ap (λ (n : ℕ). bytes_of n (bit_of block)) (sym long) ∙ bytes_bits block bytes

  -- a block whose bits are all decided as sent is found to be itself
  pub found-clean : found kind rate taps e b ≡ done block
  unfolding found
  found-clean =
      reported-good (block_rows kind rate taps e b) (bytes_found kind rate e b)
      (clean-rows kind rate D taps (scrambled (bit_of block)) (block-binary block (data_bits kind)) (bits_of_block kind rate e b) as-coded)
      ∙ ap (λ (l : List ℕ). done l) bytes-clean

-- ---- what the findings come to

-- a refusal's report, whatever the answer would have been
refused-same : Report (List ℕ) → Report ℕ
refused-same (done l) = done 0
refused-same (refused n v w) = refused n v w

not-refused : {l : List ℕ} {n v w : ℕ} → done l ≡ refused n v w → ⊥
not-refused {l} q = cc

module _ (kind rate taps : ℕ) (e : ℕ → ℕ) where
  -- where a block is found to be some bytes, none of its rows applies, and these are the bytes
  found-done : (b : ℕ) (l : List ℕ) → found kind rate taps e b ≡ done l → NoneApplies (block_rows kind rate taps e b) × (bytes_found kind rate e b ≡ l)
  unfolding found
  found-done b l is =
      let (none, same) = reported-done (block_rows kind rate taps e b) (bytes_found kind rate e b) l is in
      (none, done-same (sym same ∙ is))

  -- all blocks of a payload are found: the payload comes back
  pub all_found : (n : ℕ) (payload : List ℕ) → kind < 5 → length payload ≡ n * block_bytes kind
      → ((b : ℕ) → b < n → found kind rate taps e b ≡ done (block_of (block_bytes kind) payload b)) → (out : List ℕ)
      → recovered_all kind rate taps n e out ≡ record { report = done (n * block_bytes kind); out = payload ++ drop (n * block_bytes kind) out }
  unfolding recovered_all payload_found
  all_found n payload k long is out =
      outcome-by-good {A = ℕ} (blockwise n (block_rows kind rate taps e)) out (n * size) (payload_found kind rate n e out)
      (none-blockwise (block_rows kind rate taps e) n (λ b h. (found-done b _ (is b h)).0))
      ∙ ap (λ (l : List ℕ). record { report = done (n * size); out = l }) whole
    where
      size : ℕ
      size = block_bytes kind

      at_byte : (i : ℕ) → i < n * block_bytes kind → get_or (bytes_found kind rate e (i / block_bytes kind)) (i % block_bytes kind) 0 ≡ get_or payload i 0
      at_byte i h =
          let b = i / block_bytes kind in
          ap (λ (l : List ℕ). get_or l (i % block_bytes kind) 0) (found-done b _ (is b (block-lt kind n i k h))).1
          ∙ block_at (block_bytes kind) payload b (i % block_bytes kind) (mod-lt i (some_bytes kind k))
          ∙ ap (λ (m : ℕ). get_or payload m 0) (div-add-mod' i (block_bytes kind))

      whole : payload_found kind rate n e out ≡ payload ++ drop (n * block_bytes kind) out
      whole =
          written-put (n * block_bytes kind) 0 payload out _ (written-ext (n * block_bytes kind) _ (λ i. get_or payload i 0) out at_byte) (sym long)
          ∙ ap (λ (m : ℕ). payload ++ drop m out) long

module _ (kind rate taps : ℕ) (e : ℕ → ℕ) where
  -- what the decided bits come to goes by the rows alone, whatever is lent
  pub all-refused : (n : ℕ) (was out : List ℕ) (r : Refusal) → (recovered_all kind rate taps n e was).report ≡ refusal r
      → recovered_all kind rate taps n e out ≡ record { report = refusal r; out = out }
  unfolding recovered_all
  all-refused n was out r is =
      refused-over {A = ℕ} (blockwise n (block_rows kind rate taps e)) was (n * block_bytes kind) (payload_found kind rate n e was) r out (payload_found kind rate n e out) is

  pub all-done : (n : ℕ) (was : List ℕ) (d : ℕ) → (recovered_all kind rate taps n e was).report ≡ done d
      → NoneApplies (blockwise n (block_rows kind rate taps e)) × (n * block_bytes kind ≡ d)
  unfolding recovered_all
  all-done n was d is =
      done-over (blockwise n (block_rows kind rate taps e)) was (n * block_bytes kind) d (payload_found kind rate n e was) is

  -- no row of any block applies: all bytes are found
  pub all-good : (n : ℕ) (out : List ℕ) → NoneApplies (blockwise n (block_rows kind rate taps e))
      → recovered_all kind rate taps n e out ≡ record { report = done (n * block_bytes kind); out = payload_found kind rate n e out }
  unfolding recovered_all
  all-good n out none = outcome-by-good (blockwise n (block_rows kind rate taps e)) out (n * block_bytes kind) (payload_found kind rate n e out) none

  module _ {C : Type 0} (d : C) (n b : ℕ) (r : Refusal) where
    -- no row of a lower block applies, and one of this block does: it decides
    pub lowest-block : b < n → NoneApplies (blockwise b (block_rows kind rate taps e)) → first_applicable (block_rows kind rate taps e b) refusal (done d) ≡ refusal r
        → (out : List ℕ) → recovered_all kind rate taps n e out ≡ record { report = refusal r; out = out }
    unfolding recovered_all
    lowest-block h lower is out =
        blockwise-refused (block_rows kind rate taps e) d b r lower is {A = ℕ} n h out (n * block_bytes kind) (payload_found kind rate n e out)

  -- a block that is refused: by 7 or 8, and by the first of its rows that applies
  record Refusing (b k v w : ℕ) : Type 0 where
    cause : Refusal
    decides : first_applicable (block_rows kind rate taps e b) (refusal {A = ℕ}) (done 0) ≡ refusal cause
    reports : refusal {A = ℕ} cause ≡ refused k v w
    number_is : (k ≡ 7) ⊎ (k ≡ 8)

  refusing : (b k v w : ℕ) → found kind rate taps e b ≡ refused k v w → Refusing b k v w
  unfolding found refused-same
  refusing b k v w is =
      go (ltb (first_undecided kind rate f) (coded_bits kind rate)) (ltb 0 (disagreeing kind rate taps f)) refl refl is
    where
      f : ℕ → ℕ
      f = bits_of_block kind rate e b

      go : (s t : Bool) → ltb (first_undecided kind rate (bits_of_block kind rate e b)) (coded_bits kind rate) ≡ s
          → ltb 0 (disagreeing kind rate taps (bits_of_block kind rate e b)) ≡ t
          → cond s (refusal (Majority (first_undecided kind rate (bits_of_block kind rate e b))))
          (cond t (refusal (Parity (disagreeing kind rate taps (bits_of_block kind rate e b)))) (done (bytes_found kind rate e b)))
          ≡ refused k v w
          → Refusing b k v w
      go true t majority parity q =
          record {
            cause = Majority (first_undecided kind rate (bits_of_block kind rate e b));
            decides = rw majority;
            reports = ap refused-same q;
            number_is = inl (sym (ap number q));
          }
      go false true majority parity q =
          record {
            cause = Parity (disagreeing kind rate taps (bits_of_block kind rate e b));
            decides = rw (majority, parity);
            reports = ap refused-same q;
            number_is = inr (sym (ap number q));
          }
      go false false majority parity q = absurd (not-refused q)

  -- the lowest block that is found to be refused decides, by 7 or 8, and all that was lent is kept
  pub lowest_found : (n b k v w : ℕ) → b < n → ((j : ℕ) → j < b → (l : List ℕ) × (found kind rate taps e j ≡ done l)) → found kind rate taps e b ≡ refused k v w
      → (out : List ℕ) → ((k ≡ 7) ⊎ (k ≡ 8)) × (recovered_all kind rate taps n e out ≡ record { report = refused k v w; out = out })
  lowest_found n b k v w h lower is out =
      let R = refusing b k v w is in
      let none = none-blockwise (block_rows kind rate taps e) b (λ j l. let (bytes, good) = lower j l in (found-done kind rate taps e j bytes good).0) in
      (R.number_is, lowest-block 0 n b R.cause h none R.decides out ∙ ap (λ (r : Report ℕ). record { report = r; out = out }) R.reports)
