-- The bytes of blocks one after the other. Assumes nothing.
use Rattle.std.specs.Prelude.{List, ℕ, ◌/◌, ◌%◌, get_or}
use Rattle.bits.specs.Bits.{byte_of}
use Rattle.card.specs.Modes.{block_bytes}
use Rattle.scrambler.specs.Scrambler.{scramble}
use Rattle.recovery.specs.Recovery.{data_bit}
use Rattle.payload_blocks.specs.Blocks.{block_of, bits_of_block}

-- byte i of the blocks as they were coded, by the decided joined bits e
unfoldable pub scrambled_byte : ℕ → ℕ → (ℕ → ℕ) → ℕ → ℕ
scrambled_byte kind rate e i = byte_of (data_bit kind rate (bits_of_block kind rate e (i / block_bytes kind))) (i % block_bytes kind)

-- byte i of some blocks of `size` bytes, each scrambled by itself
unfoldable pub descrambled_byte : ℕ → List ℕ → ℕ → ℕ
descrambled_byte size bytes i = get_or (scramble (block_of size bytes (i / size))) (i % size) 0
