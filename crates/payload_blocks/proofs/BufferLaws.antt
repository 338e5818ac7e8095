-- What the local buffers hold: a block, scrambled, at its start, and blocks one after the other. Assumes nothing.
use mathlib.Core.Path.{◌≡◌, refl, sym, ap, ap₂, ◌∙◌}
use mathlib.Core.List.{List, ◌++◌}
use Prim.Native.Nat.{ℕ, ◌+◌, ◌-◌, ◌*◌, ◌/◌, ◌%◌, ◌≤◌, ◌<◌}
use native.Mathlib.Nat.{mul-le-mul_right}
use native.Mathlib.Omega.{arith}
use lib.Arith.{digits_div, digits_mod}
use lib.ListN.{length, get_or, take, drop, length-append, length-take, length-drop}
use lib.Seq.{take_at, get_or-take, get_or-drop}
use borrow.Author.Tests.{ltb-false}
use Rattle.bits.specs.Bits.{bit_of, byte_of, bytes_of}
use Rattle.bits.specs.Lists.{written}
use Rattle.bits.proofs.NumberLaws.{row_within}
use Rattle.bits.proofs.BitLaws.{Binary}
use Rattle.bits.proofs.ListLaws.{tabulate-of, get_or-written, written-ext, written-list}
use Rattle.refusal.specs.declared.Refusal.{Refusal}
use Rattle.refusal.specs.Report.{done, refusal}
use Rattle.refusal.specs.Outcome.{Outcome, first_applicable}
use Rattle.refusal.proofs.OutcomeLaws.{NoneApplies, report-of, outcome-good, outcome-done}
use Rattle.card.specs.Modes.{block_bytes, Defined}
use Rattle.scrambler.specs.Scrambler.{scrambled, scramble}
use Rattle.scrambler.proofs.ScramblerLaws.{length-scramble, bits-scramble, scramble-bytes}
use Rattle.interleaver_shape.specs.Shapes.{coded_bits}
use Rattle.interleaver.specs.Source.{coded_at}
use Rattle.interleaver.proofs.InterleaverLaws.{coded-lt}
use Rattle.fec.specs.Coding.{coded_bit}
use Rattle.fec.proofs.CodingLaws.{coded-ext, coded-count}
use Rattle.recovery.specs.Recovery.{data_bit, first_undecided, recover_rows, recovered}
use Rattle.recovery.proofs.RecoveryLaws.{all-decided, recovered-ext}
use Rattle.payload_blocks.specs.Blockwise.{blockwise}
use Rattle.payload_blocks.specs.Blocks.{block_of, block_bit, joined_bit, bits_of_block, bytes_found, block_rows, payload_found}
use Rattle.payload_blocks.specs.Loops.Parts.{scrambled_byte, descrambled_byte}
use Rattle.payload_blocks.proofs.BlockwiseLaws.{none-of-block}
use Rattle.payload_blocks.proofs.BlockLaws.{block-lt, block_at, joined_at}

-- ---- a buffer that holds a block, scrambled, at its start

module _ (block was now : List ℕ) (e : now ≡ scramble block ++ drop (length block) was) where
  scrambled-part : take (length block) now ≡ scramble block
  scrambled-part = ap (take (length block)) e ∙ take_at (scramble block) (drop (length block) was) (length block) (length-scramble block)

  pub scrambled-length : length (take (length block) now) ≡ length block
  scrambled-length = ap length scrambled-part ∙ length-scramble block

  pub scrambled-room : length block ≤ length now
  scrambled-room = omega (arith, simp length-append at (ap length e), length-scramble block)

  -- coded from there it gives the block's coded bits
  pub coded-written : (kind rate : ℕ) → Defined kind rate → (taps : ℕ) → length block ≡ block_bytes kind → (out : List ℕ)
      → written (coded_bits kind rate) (coded_bit kind rate taps (bit_of (take (length block) now))) out
      ≡ written (coded_bits kind rate) (block_bit kind rate taps block) out
  unfolding block_bit
  coded-written kind rate D taps long out =
      written-ext (coded_bits kind rate) _ _ out
      (coded-ext kind rate D taps (bit_of (take (length block) now)) (scrambled (bit_of block)) (λ k h.
      ap (λ (l : List ℕ). bit_of l k) scrambled-part ∙ bits-scramble block k (omega (arith, long))))

-- ---- blocks one after the other

-- few blocks of few elements are few
pub few-blocks : (n m k : ℕ) → n ≤ 4 → m ≤ k → n * m ≤ 4 * k
few-blocks n m k blocks few = omega (arith, mul-le-mul_right {m = n} {n = 4} m blocks)

-- the coded bits of a part of the payload stand among the joined ones
pub part-joined : (kind rate taps : ℕ) (payload : List ℕ) (b from end at j : ℕ) → from ≡ b * block_bytes kind → end ≡ from + block_bytes kind
    → at ≡ b * coded_bits kind rate → j < coded_bits kind rate
    → block_bit kind rate taps (take (end - from) (drop from payload)) j ≡ joined_bit kind rate taps payload (at + j)
part-joined kind rate taps payload b from end at j start e first h =
    let few : end - from ≡ block_bytes kind = omega arith in
    rw (few, start, first) (sym (joined_at kind rate taps payload b j h))

-- a block of them, scrambled at the start of a part of the output
pub part-descrambled : (size : ℕ) (bytes : List ℕ) (b at end : ℕ) (out : List ℕ) → at ≡ b * size → end ≡ at + size → end ≤ length bytes
    → scramble (take (end - at) (drop at bytes)) ++ drop (length (take (end - at) (drop at bytes))) out
    ≡ written size (λ j. descrambled_byte size bytes (at + j)) out
unfolding descrambled_byte
part-descrambled size bytes b at end out start e fits = let few : end - at ≡ size = omega arith in rw (few, start) go
  where
    block : List ℕ
    block = take size (drop (b * size) bytes)

    long : length (take size (drop (b * size) bytes)) ≡ size
    long = simp (length-take, length-drop) (omega (arith, start, e, fits))

    go : scramble block ++ drop (length block) out ≡ written size (λ j. get_or (scramble (block_of size bytes ((b * size + j) / size))) ((b * size + j) % size) 0) out
    go =
        ap (λ (m : ℕ). scramble block ++ drop m out) (sym (length-scramble block))
        ∙ written-list size _ (scramble block) out
        (tabulate-of size _ 0 (scramble block) (length-scramble block ∙ long) (λ j h. sym (ap₂ (λ (q r : ℕ). get_or (scramble (block_of size bytes q)) r 0) (digits_div b h) (digits_mod b h))))

-- ---- the bits of one block among the joined ones

-- the elements of a list as bits
abbrev pub decided_at : List ℕ → ℕ → ℕ
decided_at decided i = get_or decided i 0

module _ (kind rate : ℕ) (D : Defined kind rate) (decided : List ℕ) (b from end : ℕ) (start : from ≡ b * coded_bits kind rate) (e : end ≡ from + coded_bits kind rate) where
  part_bits : (i : ℕ) → i < coded_bits kind rate
      → get_or (take (end - from) (drop from decided)) i 0 ≡ bits_of_block kind rate (decided_at decided) b i
  part_bits i h =
      let few : end - from ≡ coded_bits kind rate = omega arith in
      rw (few, start) (get_or-take (coded_bits kind rate) (drop (b * coded_bits kind rate) decided) i 0 h ∙ get_or-drop (b * coded_bits kind rate) decided i 0)

  -- a block's own recovery goes by them
  pub part-recovered : (taps : ℕ) (out : List ℕ) → recovered kind rate taps (decided_at (take (end - from) (drop from decided))) out
      ≡ recovered kind rate taps (bits_of_block kind rate (decided_at decided) b) out
  part-recovered taps out = recovered-ext kind rate D _ _ part_bits taps out

module _ (kind rate taps : ℕ) (f : ℕ → ℕ) (out : List ℕ) where
  -- one block: its rows refuse
  pub one-refused : (r : Refusal) → (recovered kind rate taps f out).report ≡ refusal r
      → first_applicable (recover_rows kind rate taps f) refusal (done (block_bytes kind)) ≡ refusal r
  unfolding recovered
  one-refused r is = sym (report-of (recover_rows kind rate taps f) out (block_bytes kind) _) ∙ is

  -- or none applies, and its bytes are written
  pub one-done : (d : ℕ) → (recovered kind rate taps f out).report ≡ done d
      → NoneApplies (recover_rows kind rate taps f) × ((recovered kind rate taps f out).out ≡ written (block_bytes kind) (byte_of (data_bit kind rate f)) out)
  unfolding recovered written bytes_of
  one-done d is =
      let none = outcome-done (recover_rows kind rate taps f) out (block_bytes kind) d (bytes_of (block_bytes kind) (data_bit kind rate f) ++ drop (block_bytes kind) out) is in
      (none, ap (λ (o : Outcome ℕ (List ℕ)). o.out) (outcome-good (recover_rows kind rate taps f) out (block_bytes kind) (bytes_of (block_bytes kind) (data_bit kind rate f) ++ drop (block_bytes kind) out) none))

-- byte j of block b as it was coded
pub part-scrambled : (kind rate : ℕ) (e : ℕ → ℕ) (b at j : ℕ) → at ≡ b * block_bytes kind → j < block_bytes kind
    → byte_of (data_bit kind rate (bits_of_block kind rate e b)) j ≡ scrambled_byte kind rate e (at + j)
unfolding scrambled_byte
part-scrambled kind rate e b at j first h =
    rw first (sym (ap₂ (λ (q r : ℕ). byte_of (data_bit kind rate (bits_of_block kind rate e q)) r) (digits_div b h) (digits_mod b h)))

-- ---- the bytes of all blocks, descrambled

module _ (kind rate taps : ℕ) (D : Defined kind rate) (e : ℕ → ℕ) (n : ℕ) (none : NoneApplies (blockwise n (block_rows kind rate taps e))) (was bytes : List ℕ)
    (room : n * block_bytes kind ≤ length bytes) (held : bytes ≡ written (n * block_bytes kind) (scrambled_byte kind rate e) was) where
  coded-at : (i : ℕ) → i < n * block_bytes kind → get_or (take (n * block_bytes kind) bytes) i 0 ≡ scrambled_byte kind rate e i
  coded-at i h =
      get_or-take (n * block_bytes kind) bytes i 0 h ∙ ap (λ (l : List ℕ). get_or l i 0) held
      ∙ get_or-written (n * block_bytes kind) (scrambled_byte kind rate e) was i 0 h

  -- block b of them
  block_coded : (b : ℕ) → b < n → block_of (block_bytes kind) (take (n * block_bytes kind) bytes) b ≡ bytes_of (block_bytes kind) (data_bit kind rate (bits_of_block kind rate e b))
  unfolding bytes_of
  block_coded b h =
      tabulate-of (block_bytes kind) _ 0 (block_of (block_bytes kind) (take (n * block_bytes kind) bytes) b)
      (simp (length-take, length-drop) (omega (arith, room, row_within b (block_bytes kind) n h)))
      (λ j l.
      block_at (block_bytes kind) (take (n * block_bytes kind) bytes) b j l
      ∙ coded-at (b * block_bytes kind + j) (omega (arith, row_within b (block_bytes kind) n h))
      ∙ sym (part-scrambled kind rate e b (b * block_bytes kind) j refl l))

  -- its bits are decided
  block_decided : (b : ℕ) → b < n → Binary (8 * block_bytes kind) (data_bit kind rate (bits_of_block kind rate e b))
  unfolding data_bit
  block_decided b h i l =
      let decided : coded_bits kind rate ≤ first_undecided kind rate (bits_of_block kind rate e b) =
      ltb-false (first_undecided kind rate (bits_of_block kind rate e b)) (coded_bits kind rate) (none-of-block (block_rows kind rate taps e) n none b h).0 in
      all-decided kind rate (bits_of_block kind rate e b) decided (coded_at kind rate i) (coded-lt kind rate D i (omega (arith, coded-count kind rate D)))

  block_found : (b : ℕ) → b < n → scramble (block_of (block_bytes kind) (take (n * block_bytes kind) bytes) b) ≡ bytes_found kind rate e b
  unfolding bytes_found
  block_found b h =
      ap scramble (block_coded b h) ∙ scramble-bytes (block_bytes kind) (data_bit kind rate (bits_of_block kind rate e b)) (block_decided b h)

  pub all-descrambled : (out : List ℕ) → written (n * block_bytes kind) (descrambled_byte (block_bytes kind) (take (n * block_bytes kind) bytes)) out ≡ payload_found kind rate n e out
  unfolding descrambled_byte payload_found
  all-descrambled out =
      written-ext (n * block_bytes kind) _ _ out
      (λ i h. ap (λ (l : List ℕ). get_or l (i % block_bytes kind) 0) (block_found (i / block_bytes kind) (block-lt kind n i D.kind-lt h)))
