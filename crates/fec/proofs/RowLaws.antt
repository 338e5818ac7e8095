-- A block's source bits in rows: how many rows there are, and which bit stands where. Assumes nothing.
use mathlib.Core.Path.{◌≡◌, subst, sym, ap, ◌∙◌}
use mathlib.Core.List.{List, ◌++◌}
use Prim.Native.Nat.{ℕ, ◌+◌, ◌-◌, ◌*◌, ◌/◌, ◌%◌, ◌≤◌, ◌<◌}
use native.Mathlib.Omega.{arith}
use lib.Dec.{leb, leb→le, ltb, ltb→lt}
use lib.ListN.{length, get_or, take, drop}
use lib.Seq.{get_or-take}
use borrow.Author.Tests.{lt-ltb, le-ltb}
use Rattle.bits.specs.Bits.{bit_at, bit_of, byte_of}
use Rattle.bits.specs.Lists.{written}
use Rattle.bits.proofs.BitLaws.{written-bits}
use Rattle.bits.proofs.ListLaws.{length-written, get_or-written, written-ext, written-part}
use Rattle.bits.proofs.RangeLaws.{at_each, at-each₂, agree₂}
use Rattle.card.specs.Modes.{block_bytes, Defined}
use Rattle.columns.specs.Columns.{rowed}
use Rattle.columns.specs.Loops.Heights.{tallest, ServedHeight}
use Rattle.turbo.specs.Puncture.{kept_count}
use Rattle.turbo.specs.Parity.{kept_bit}
use Rattle.turbo.proofs.ParityLaws.{kept-binary}
use Rattle.interleaver_shape.specs.Shapes.{shape_of, coded_bits}
use Rattle.interleaver.specs.Source.{source}
use Rattle.interleaver.specs.Loops.RowOrder.{source_at, row_place, row_source}
use Rattle.interleaver.proofs.InterleaverLaws.{row-place-lt, row-source-place}
use Rattle.interleaver.proofs.RowLaws.{filled-lt}
use Rattle.fec.specs.Coding.{data_bits, source_bit, coded_bit}
use Rattle.fec.proofs.CodingLaws.{source-data, source-parity, coded-count}

-- how many rows of data a block has, and how many of parity: `high` and `low` below
abbrev pub data_height : ℕ → ℕ
data_height kind = block_bytes kind * 2

abbrev pub parity_height : ℕ → ℕ → ℕ
parity_height kind rate = (shape_of kind rate).parity

module _ (kind rate high low : ℕ) (D : Defined kind rate) (eh : high ≡ data_height kind) (el : low ≡ parity_height kind rate) where
  pub data-served : ServedHeight high
  data-served =
      subst ServedHeight (sym eh) record {
        some = ltb→lt 0 _ (at_each 5 (λ k. ltb 0 (data_height k)) tt kind D.kind-lt);
        fits = leb→le _ _ (at_each 5 (λ k. leb (data_height k) (tallest (data_height k))) tt kind D.kind-lt);
        even = omega arith;
      }

  pub parity-served : ServedHeight low
  parity-served =
      subst ServedHeight (sym el) record {
        some = ltb→lt 0 _ (at-each₂ 5 2 (λ k r. ltb 0 (parity_height k r)) tt kind rate D.kind-lt D.rate-lt);
        fits = leb→le _ _ (at-each₂ 5 2 (λ k r. leb (parity_height k r) (tallest (parity_height k r))) tt kind rate D.kind-lt D.rate-lt);
        even = agree₂ 5 2 (λ k r. 2 * (parity_height k r / 2)) parity_height tt kind rate D.kind-lt D.rate-lt;
      }

  -- the kept parity bits fill the parity rows, and their bytes are whole
  pub kept-rows : kept_count kind rate ≡ 4 * low
  unfolding coded_bits
  kept-rows = omega (arith, coded-count kind rate D)

  pub kept-bytes : (kept_count kind rate / 8 ≡ low / 2) × (8 * (kept_count kind rate / 8) ≡ kept_count kind rate)
  kept-bytes = (omega (arith, kept-rows, parity-served.even), omega (arith, kept-rows, parity-served.even))

  pub all-rows : 4 * high + 4 * low ≡ coded_bits kind rate
  all-rows = omega (arith, kept-rows, coded-count kind rate D)

  -- the source bit at a place of the rows
  pub source-in-data : (j : ℕ) → j < 4 * high → row_source kind rate j ≡ j % 4 * high + j / 4
  unfolding row_source source_at
  source-in-data j h = rw (eh, lt-ltb j (data_height kind * 4) (omega arith))

  pub source-in-parity : (j : ℕ) → row_source kind rate (4 * high + j) ≡ data_bits kind + (j % 4 * low + j / 4)
  unfolding row_source source_at
  source-in-parity j =
      let e : 4 * data_height kind + j - data_height kind * 4 ≡ j = omega arith in
      let d : data_height kind * 4 ≡ data_bits kind = omega arith in
      rw (eh, el, le-ltb (4 * data_height kind + j) (data_height kind * 4) (omega arith), e, d)

  module _ (taps : ℕ) (bytes : List ℕ) where
    abbrev in_rows : ℕ → ℕ
    in_rows j = source_bit kind rate taps (bit_of bytes) (row_source kind rate j)

    data-rowed : (j : ℕ) → j < 4 * high → rowed high (bit_of bytes) j ≡ in_rows j
    unfolding rowed
    data-rowed j h =
        sym (ap (source_bit kind rate taps (bit_of bytes)) (source-in-data j h)
        ∙ source-data kind rate taps (bit_of bytes) (j % 4 * high + j / 4) (omega (arith, filled-lt j (high) (omega arith))))

    parity-rowed : (part : List ℕ) → ((i : ℕ) → i < kept_count kind rate → bit_of part i ≡ kept_bit kind rate taps (bit_of bytes) i) → (j : ℕ)
        → j < 4 * low → rowed low (bit_of part) j ≡ in_rows (4 * high + j)
    unfolding rowed
    parity-rowed part held j h =
        let i : ℕ = j % 4 * low + j / 4 in
        held i (omega (arith, kept-rows, filled-lt j (low) (omega arith)))
        ∙ sym (ap (source_bit kind rate taps (bit_of bytes)) (source-in-parity j) ∙ source-parity kind rate taps (bit_of bytes) i)

    -- the first bytes of the parity buffer
    module _ (was parity : List ℕ) (room : kept_count kind rate / 8 ≤ length was)
        (e : parity ≡ written (kept_count kind rate / 8) (byte_of (kept_bit kind rate taps (bit_of bytes))) was) where
      pub parity-long : kept_count kind rate / 8 ≤ length parity
      parity-long = omega (arith, ap length e ∙ length-written (kept_count kind rate / 8) _ was room)

      pub parity-held : (i : ℕ) → i < kept_count kind rate → bit_of (take (kept_count kind rate / 8) parity) i ≡ kept_bit kind rate taps (bit_of bytes) i
      unfolding bit_of
      parity-held i h =
          ap (λ (m : ℕ). bit_at (7 - i % 8) m) (get_or-take (kept_count kind rate / 8) parity (i / 8) 0 (omega (arith, kept-bytes.1)))
          ∙ written-bits (kept_count kind rate / 8) (kept_bit kind rate taps (bit_of bytes)) was parity (λ j l. kept-binary kind rate taps (bit_of bytes) j) e i
          (omega (arith, kept-bytes.1))

    -- data rows and then parity rows
    pub rows_written : (out now part rest : List ℕ) → ((i : ℕ) → i < kept_count kind rate → bit_of part i ≡ kept_bit kind rate taps (bit_of bytes) i)
        → now ≡ written (4 * high) (rowed high (bit_of bytes)) out
        → rest ≡ written (4 * low) (rowed low (bit_of part)) (take (length now - 4 * high) (drop (4 * high) now))
        → take (4 * high) now ++ (rest ++ drop (length now - 4 * high) (drop (4 * high) now)) ≡ written (coded_bits kind rate) in_rows out
    rows_written out now part rest held e d =
        written-part (4 * high) (4 * low) in_rows (rowed low (bit_of part)) out now rest
        (e ∙ written-ext (4 * high) (rowed high (bit_of bytes)) in_rows out data-rowed) (parity-rowed part held) d
        ∙ ap (λ (n : ℕ). written n in_rows out) all-rows

    -- the rows in the interleaver's order are the coded bits
    pub coded-written : (was rows out : List ℕ) (coded : ℕ) → coded ≡ coded_bits kind rate → rows ≡ written (coded_bits kind rate) in_rows was
        → written (coded_bits kind rate) (λ i. get_or (take coded rows) (row_place kind rate i) 0) out ≡ written (coded_bits kind rate) (coded_bit kind rate taps (bit_of bytes)) out
    unfolding coded_bit
    coded-written was rows out coded n e =
        written-ext (coded_bits kind rate) _ (λ i. source_bit kind rate taps (bit_of bytes) (source kind rate i)) out (λ i h.
        let l : row_place kind rate i < coded_bits kind rate = row-place-lt kind rate D i h in
        get_or-take coded rows (row_place kind rate i) 0 (omega arith)
        ∙ ap (λ (s : List ℕ). get_or s (row_place kind rate i) 0) e
        ∙ get_or-written (coded_bits kind rate) in_rows was (row_place kind rate i) 0 l
        ∙ ap (source_bit kind rate taps (bit_of bytes)) (row-source-place kind rate D i h))
