-- The blocks of a payload (paper 02, T-07): one to four of one kind, each scrambled, coded and shuffled by itself, their coded bits joined; and
-- what each block is found to be by the decided bits. Blocks, bytes and bits count from 0. Assumes nothing.
use Rattle.std.specs.Prelude.{List, [], ℕ, ◌+◌, ◌*◌, ◌/◌, ◌%◌, get_or, take, drop}
use Rattle.bits.specs.Bits.{bit_of, bytes_of}
use Rattle.bits.specs.Lists.{written}
use Rattle.refusal.specs.Report.{Report}
use Rattle.refusal.specs.Outcome.{Row, reported, Outcome}
use Rattle.card.specs.Modes.{block_bytes}
use Rattle.scrambler.specs.Scrambler.{scrambled}
use Rattle.interleaver_shape.specs.Shapes.{coded_bits}
use Rattle.fec.specs.Coding.{coded_bit}
use Rattle.recovery.specs.Recovery.{data_bit, recover_rows}
use Rattle.payload_blocks.specs.Blockwise.{outcome_blockwise}

-- ---- going out

-- block b of some bytes, where each has `size` of them
abbrev pub block_of : ℕ → List ℕ → ℕ → List ℕ
block_of size bytes b = take size (drop (b * size) bytes)

-- coded bit i of a block, which is scrambled from all ones before it is coded
unfoldable pub block_bit : ℕ → ℕ → ℕ → List ℕ → ℕ → ℕ
block_bit kind rate taps block i = coded_bit kind rate taps (scrambled (bit_of block)) i

-- coded bit x of a payload: of block x div c coded bit x mod c, where c is the coded bits of a block
unfoldable pub joined_bit : ℕ → ℕ → ℕ → List ℕ → ℕ → ℕ
joined_bit kind rate taps payload x =
    block_bit kind rate taps (block_of (block_bytes kind) payload (x / coded_bits kind rate)) (x % coded_bits kind rate)

-- ---- coming back, by the joined bits e as they were decided

-- the coded bits of block b
abbrev pub bits_of_block : ℕ → ℕ → (ℕ → ℕ) → ℕ → ℕ → ℕ
bits_of_block kind rate e b i = e (b * coded_bits kind rate + i)

-- its bytes: the data bits, descrambled from all ones
unfoldable pub bytes_found : ℕ → ℕ → (ℕ → ℕ) → ℕ → List ℕ
bytes_found kind rate e b = bytes_of (block_bytes kind) (scrambled (data_bit kind rate (bits_of_block kind rate e b)))

-- the rows about it: 7 with the lowest of its bits that has no majority, counted in the block, and 8
abbrev pub block_rows : ℕ → ℕ → ℕ → (ℕ → ℕ) → ℕ → List Row
block_rows kind rate taps e b = recover_rows kind rate taps (bits_of_block kind rate e b)

-- its own finding: its bytes, 7 or 8
unfoldable pub found : ℕ → ℕ → ℕ → (ℕ → ℕ) → ℕ → Report (List ℕ)
found kind rate taps e b = reported (block_rows kind rate taps e b) (bytes_found kind rate e b)

-- the findings' bytes of n blocks, one after the other at the start of the lent memory
unfoldable pub payload_found : ℕ → ℕ → ℕ → (ℕ → ℕ) → List ℕ → List ℕ
payload_found kind rate n e out =
    written (n * block_bytes kind) (λ i. get_or (bytes_found kind rate e (i / block_bytes kind)) (i % block_bytes kind) 0) out

-- what n blocks come to: the lowest that has 7 or 8 is the answer, and all is kept; otherwise all their bytes
unfoldable pub recovered_all : ℕ → ℕ → ℕ → ℕ → (ℕ → ℕ) → List ℕ → Outcome ℕ (List ℕ)
recovered_all kind rate taps n e out =
    outcome_blockwise [] n (block_rows kind rate taps e) out (n * block_bytes kind) (payload_found kind rate n e out)
