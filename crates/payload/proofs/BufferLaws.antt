-- What the local buffers of the entries hold: the scrambled block, its coded bits, and the decided bits. Assumes nothing.
use mathlib.Core.Path.{◌≡◌, sym, ap, ap₂, ◌∙◌}
use mathlib.Core.List.{List, ◌++◌}
use Prim.Native.Nat.{ℕ, ◌*◌, ◌≤◌, ◌<◌}
use native.Mathlib.Omega.{arith}
use lib.ListN.{length, get_or, take, drop, length-append}
use lib.Seq.{take_at}
use Rattle.bits.specs.Bits.{bit_of, bytes_of}
use Rattle.bits.specs.Lists.{tabulate, written}
use Rattle.bits.proofs.ListLaws.{length-tabulate, get_or-tabulate, take-written, written_all, written-ext}
use Rattle.refusal.specs.Report.{Report, done}
use Rattle.refusal.specs.Outcome.{Outcome}
use Rattle.card.specs.Modes.{block_bytes, Defined}
use Rattle.scrambler.specs.Scrambler.{scrambled, scramble}
use Rattle.bits.proofs.BitLaws.{length-bytes}
use Rattle.scrambler.proofs.ScramblerLaws.{length-scramble, bits-scramble}
use Rattle.interleaver_shape.specs.Shapes.{coded_bits}
use Rattle.interleaver_shape.proofs.ShapeLaws.{coded-le}
use Rattle.fec.specs.Coding.{data_bits, coded_bit}
use Rattle.fec.proofs.CodingLaws.{coded-ext}
use Rattle.recovery.specs.Recovery.{data_bit, recovered}
use Rattle.recovery.proofs.RecoveryLaws.{recovered-ext}
use Rattle.votes.specs.Votes.{decided}
use Rattle.payload_layout.specs.declared.Layout.{Layout}
use Rattle.payload_layout.specs.Layouts.{items}
use Rattle.payload_layout.specs.Items.{carries, sent_on}
use Rattle.payload_layout.proofs.ItemLaws.{sent-ext}
use Rattle.payload.specs.Loops.Blocks.{LaidBlock}
use Rattle.payload.specs.Entries.{sent_item, decided_bit, block_made, decided_block}
use Rattle.payload.proofs.EntryLaws.{block-done}

-- ---- a buffer that holds a block, scrambled, at its start

module _ (block was now : List ℕ) (e : now ≡ scramble block ++ drop (length block) was) where
  scrambled-part : take (length block) now ≡ scramble block
  scrambled-part = ap (take (length block)) e ∙ take_at (scramble block) (drop (length block) was) (length block) (length-scramble block)

  pub scrambled-length : length (take (length block) now) ≡ length block
  scrambled-length = ap length scrambled-part ∙ length-scramble block

  pub scrambled-room : length block ≤ length now
  scrambled-room = omega (arith, simp length-append at (ap length e), length-scramble block)

  pub scrambled-bits : (i : ℕ) → i < 8 * length block → bit_of (take (length block) now) i ≡ scrambled (bit_of block) i
  scrambled-bits i h = ap (λ (l : List ℕ). bit_of l i) scrambled-part ∙ bits-scramble block i h

-- ---- a buffer of which the first n elements are written

module _ (n : ℕ) (f : ℕ → ℕ) (was now : List ℕ) (e : now ≡ written n f was) where
  part-written : take n now ≡ tabulate n f
  part-written = ap (take n) e ∙ take-written n f was

  pub part_length : length (take n now) ≡ n
  part_length = ap length part-written ∙ length-tabulate n f

  pub part_room : n ≤ length now
  unfolding written
  part_room = omega (arith, simp length-append at (ap length e), length-tabulate n f)

  pub part_at : (i : ℕ) → i < n → get_or (take n now) i 0 ≡ f i
  part_at i h = ap (λ (l : List ℕ). get_or l i 0) part-written ∙ get_or-tabulate n f i 0 h

module _ (L : Layout) (kind rate taps : ℕ) (B : LaidBlock L kind rate) where
  -- the arrays have room for the coded bits of every block
  pub coded-fits : L.coded ≤ 8320
  coded-fits = omega (arith, B.count, coded-le kind rate B.defined)

  -- the coded bits of d at the start of a buffer, by the number that the layout has of them
  pub coded-written : (d : ℕ → ℕ) (was now : List ℕ) → now ≡ written (coded_bits kind rate) (coded_bit kind rate taps d) was
      → now ≡ written L.coded (coded_bit kind rate taps d) was
  coded-written d was now e = written_all _ _ _ was now e (sym B.count)

  -- the items of the coded bits of d are those of the block
  pub items-written : (d : ℕ → ℕ) (block was now out : List ℕ) → ((k : ℕ) → k < data_bits kind → d k ≡ scrambled (bit_of block) k)
      → now ≡ written L.coded (coded_bit kind rate taps d) was
      → written (items L) (sent_on L (λ b. get_or (take L.coded now) b 0)) out ≡ written (items L) (sent_item L kind rate taps block) out
  unfolding sent_item
  items-written d block was now out same e =
      written-ext (items L) _ _ out
      (sent-ext L B.laid (λ b. get_or (take L.coded now) b 0) (coded_bit kind rate taps (scrambled (bit_of block))) (λ b h.
      part_at L.coded (coded_bit kind rate taps d) was now e b h
      ∙ coded-ext kind rate B.defined taps d (scrambled (bit_of block)) same b (omega (arith, B.count))))

  -- recovery from a buffer of decided bits is that from the bits
  pub decided-recovered : (received was now out : List ℕ) → now ≡ written L.coded (decided (items L) (carries L) received) was
      → recovered kind rate taps (λ i. get_or (take L.coded now) i 0) out ≡ recovered kind rate taps (decided_bit L received) out
  unfolding decided_bit
  decided-recovered received was now out e =
      recovered-ext kind rate B.defined (λ i. get_or (take L.coded now) i 0) (decided (items L) (carries L) received)
      (λ i h. part_at L.coded (decided (items L) (carries L) received) was now e i (omega (arith, B.count))) taps out

-- ---- a buffer that holds the recovered bytes at its start

-- what recovery gave: n bytes, and what it left in the buffer
pub record Recovered (kind rate taps : ℕ) (e : ℕ → ℕ) (was now : List ℕ) (n : ℕ) : Type 0 where
  pub defined : Defined kind rate
  pub good : (recovered kind rate taps e was).report ≡ done n
  pub held : now ≡ (recovered kind rate taps e was).out

module _ {kind rate taps : ℕ} {e : ℕ → ℕ} {was now : List ℕ} {n : ℕ} (G : Recovered kind rate taps e was now n) where
  pub block_size : n ≡ block_bytes kind
  block_size = (block-done kind rate taps G.defined e was was n G.good).0

  block-part : take n now ≡ bytes_of (block_bytes kind) (data_bit kind rate e)
  block-part =
      ap₂ (λ (m : ℕ) (l : List ℕ). take m l) block_size (G.held ∙ (block-done kind rate taps G.defined e was was n G.good).1)
      ∙ take_at (bytes_of (block_bytes kind) (data_bit kind rate e)) (drop (block_bytes kind) was) (block_bytes kind) (length-bytes (block_bytes kind) (data_bit kind rate e))

  pub block-length : length (take n now) ≡ n
  block-length = ap length block-part ∙ length-bytes (block_bytes kind) (data_bit kind rate e) ∙ sym block_size

  pub block_room : n ≤ length now
  block_room =
      omega (arith, simp length-append at (ap length (G.held ∙ (block-done kind rate taps G.defined e was was n G.good).1)), length-bytes (block_bytes kind) (data_bit kind rate e), block_size)

  -- descrambled at the start of the lent memory they are the block
  pub block-report : (out : List ℕ) → done n ≡ (decided_block kind rate taps e out).report
  block-report out =
      ap {B = Report ℕ} (λ (m : ℕ). done m) block_size ∙ ap (λ (o : Outcome ℕ (List ℕ)). o.report) (sym (block-done kind rate taps G.defined e was out n G.good).3)

  pub block_out : (out : List ℕ) → scramble (take n now) ++ drop (length (take n now)) out ≡ (decided_block kind rate taps e out).out
  unfolding block_made
  block_out out =
      ap₂ (λ (l : List ℕ) (m : ℕ). l ++ drop m out) (ap scramble block-part ∙ (block-done kind rate taps G.defined e was out n G.good).2) (block-length ∙ block_size)
      ∙ ap (λ (o : Outcome ℕ (List ℕ)). o.out) (sym (block-done kind rate taps G.defined e was out n G.good).3)
