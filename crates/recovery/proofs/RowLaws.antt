-- The rows of a block's decided bits, and the bytes that they fill. Assumes nothing.
use mathlib.Core.Path.{◌≡◌, sym, ap, ap₂, ◌∙◌}
use mathlib.Core.List.{List}
use Prim.Native.Nat.{ℕ, ◌+◌, ◌-◌, ◌*◌, ◌/◌, ◌%◌, ◌≤◌, ◌<◌}
use native.Mathlib.Nat.{mod-lt, div-add-mod', div-lt_iff_lt-mul}
use native.Mathlib.Omega.{arith}
use lib.Arith.{digits_div, digits_mod}
use lib.ListN.{length, get_or, take, drop, length-take, length-drop}
use lib.Seq.{get_or-take, get_or-drop}
use Rattle.bits.specs.Bits.{byte_of}
use Rattle.bits.specs.Lists.{written}
use Rattle.bits.proofs.BitLaws.{Binary, bytes-ext}
use Rattle.bits.proofs.ListLaws.{length-written, get_or-written}
use Rattle.card.specs.Modes.{block_bytes, Defined}
use Rattle.columns.specs.Columns.{unrowed}
use Rattle.turbo.specs.Puncture.{kept_count}
use Rattle.interleaver_shape.specs.Shapes.{coded_bits}
use Rattle.interleaver.specs.Source.{coded_at}
use Rattle.interleaver.specs.Loops.RowOrder.{row_source}
use Rattle.interleaver.proofs.InterleaverLaws.{coded-lt, row-source-lt}
use Rattle.fec.specs.Coding.{data_bits}
use Rattle.fec.proofs.RowLaws.{data_height, parity_height, data-served, parity-served, kept-rows, kept-bytes, all-rows, source-in-data, source-in-parity}
use Rattle.recovery.specs.Recovery.{data_bit, parity_bit}
use Rattle.recovery.proofs.PartLaws.{decided_at}

-- four columns of h rows: the column of place k, and that a place of the rows leads back to k
column-lt : (k h : ℕ) → 0 < h → k < 4 * h → k / h < 4
column-lt k h pos l = (div-lt_iff_lt-mul {x = k} {y = 4} pos).1 l

place-back : (k h : ℕ) → k / h < 4 → (k % h * 4 + k / h) % 4 * h + (k % h * 4 + k / h) / 4 ≡ k
place-back k h c = ap₂ (λ (i j : ℕ). i * h + j) (digits_mod (k % h) c) (digits_div (k % h) c) ∙ div-add-mod' k h

module _ (kind rate high low : ℕ) (D : Defined kind rate) (eh : high ≡ data_height kind) (el : low ≡ parity_height kind rate) where
  all : 4 * high + 4 * low ≡ coded_bits kind rate
  all = all-rows kind rate high low D eh el

  module _ (decided was rows : List ℕ) (room : coded_bits kind rate ≤ length was)
      (e : rows ≡ written (coded_bits kind rate) (λ j. get_or decided (coded_at kind rate (row_source kind rate j)) 0) was) where
    pub rows_long : coded_bits kind rate ≤ length rows
    rows_long = omega (arith, ap length e ∙ length-written (coded_bits kind rate) _ was room)

    row-held : (j : ℕ) → j < coded_bits kind rate → get_or rows j 0 ≡ decided_at decided (coded_at kind rate (row_source kind rate j))
    row-held j h = ap (λ (s : List ℕ). get_or s j 0) e ∙ get_or-written (coded_bits kind rate) _ was j 0 h

    row-binary : Binary (coded_bits kind rate) (decided_at decided) → (j : ℕ) → j < coded_bits kind rate → get_or rows j 0 < 2
    row-binary b j h =
        rw (row-held j h) (b (coded_at kind rate (row_source kind rate j)) (coded-lt kind rate D (row_source kind rate j) (row-source-lt kind rate D j h)))

    -- a part of the rows: element j of it stands at `at j` of the rows, and bit k of its columns is source bit `from k`
    module _ (h : ℕ) (at from : ℕ → ℕ) (part : List ℕ) (pos : 0 < h) (inside : (j : ℕ) → j < 4 * h → at j < coded_bits kind rate)
        (held : (j : ℕ) → j < 4 * h → get_or part j 0 ≡ get_or rows (at j) 0)
        (sources : (j : ℕ) → j < 4 * h → row_source kind rate (at j) ≡ from (j % 4 * h + j / 4)) where
      part-binary : Binary (coded_bits kind rate) (decided_at decided) → (j : ℕ) → j < 4 * h → get_or part j 0 < 2
      part-binary b j l = rw (held j l) (row-binary b (at j) (inside j l))

      part-unrowed : (k : ℕ) → k < 4 * h → unrowed h (λ j. get_or part j 0) k ≡ decided_at decided (coded_at kind rate (from k))
      unfolding unrowed
      part-unrowed k l =
          let c : k / h < 4 = column-lt k h pos l in
          let r : k % h < h = mod-lt k pos in
          let j : ℕ = k % h * 4 + k / h in
          let b : j < 4 * h = omega arith in
          held j b ∙ row-held (at j) (inside j b) ∙ ap (λ (s : ℕ). decided_at decided (coded_at kind rate s)) (sources j b ∙ ap from (place-back k h c))

    -- the data rows
    abbrev pub data_rows : List ℕ
    data_rows = take (4 * high) rows

    data-row : (j : ℕ) → j < 4 * high → get_or data_rows j 0 ≡ get_or rows j 0
    data-row j h = get_or-take (4 * high) rows j 0 h

    pub data-rows-binary : Binary (coded_bits kind rate) (decided_at decided) → (j : ℕ) → j < 4 * high → get_or data_rows j 0 < 2
    data-rows-binary =
        part-binary high (λ j. j) (λ k. k) data_rows (data-served kind rate high low D eh el).some (λ j h. omega (arith, all)) data-row
        (source-in-data kind rate high low D eh el)

    data-unrowed : (k : ℕ) → k < data_bits kind → unrowed high (λ j. get_or data_rows j 0) k ≡ data_bit kind rate (decided_at decided) k
    unfolding data_bit
    data-unrowed k h =
        part-unrowed high (λ j. j) (λ k. k) data_rows (data-served kind rate high low D eh el).some (λ j h. omega (arith, all)) data-row
        (source-in-data kind rate high low D eh el) k (omega arith)

    pub block_written : (block : List ℕ) → written (high / 2) (byte_of (unrowed high (λ j. get_or data_rows j 0))) block
        ≡ written (block_bytes kind) (byte_of (data_bit kind rate (decided_at decided))) block
    block_written block =
        let n : high / 2 ≡ block_bytes kind = omega arith in
        ap (λ (m : ℕ). written m (byte_of (unrowed high (λ j. get_or data_rows j 0))) block) n
        ∙ bytes-ext (block_bytes kind) _ (data_bit kind rate (decided_at decided)) data-unrowed block

    -- the parity rows
    abbrev pub parity_rows : List ℕ
    parity_rows = take (coded_bits kind rate - 4 * high) (drop (4 * high) rows)

    pub parity-rows-long : length parity_rows ≡ 4 * low
    parity-rows-long = simp (length-take, length-drop) (omega (arith, rows_long, all))

    parity-row : (j : ℕ) → j < 4 * low → get_or parity_rows j 0 ≡ get_or rows (4 * high + j) 0
    parity-row j h =
        get_or-take (coded_bits kind rate - 4 * high) (drop (4 * high) rows) j 0 (omega (arith, all)) ∙ get_or-drop (4 * high) rows j 0

    pub parity-rows-binary : Binary (coded_bits kind rate) (decided_at decided) → (j : ℕ) → j < 4 * low → get_or parity_rows j 0 < 2
    parity-rows-binary =
        part-binary low (λ j. 4 * high + j) (λ k. data_bits kind + k) parity_rows (parity-served kind rate high low D eh el).some
        (λ j h. omega (arith, all)) parity-row (λ j h. source-in-parity kind rate high low D eh el j)

    parity-unrowed : (k : ℕ) → k < kept_count kind rate → unrowed low (λ j. get_or parity_rows j 0) k ≡ parity_bit kind rate (decided_at decided) k
    unfolding parity_bit
    parity-unrowed k h =
        part-unrowed low (λ j. 4 * high + j) (λ k. data_bits kind + k) parity_rows (parity-served kind rate high low D eh el).some
        (λ j h. omega (arith, all)) parity-row (λ j h. source-in-parity kind rate high low D eh el j) k (omega (arith, kept-rows kind rate high low D eh el))

    pub parity-written : (parity : List ℕ) → written (low / 2) (byte_of (unrowed low (λ j. get_or parity_rows j 0))) parity
        ≡ written (kept_count kind rate / 8) (byte_of (parity_bit kind rate (decided_at decided))) parity
    parity-written parity =
        ap (λ (m : ℕ). written m (byte_of (unrowed low (λ j. get_or parity_rows j 0))) parity) (sym (kept-bytes kind rate high low D eh el).0)
        ∙ bytes-ext (kept_count kind rate / 8) _ (parity_bit kind rate (decided_at decided))
        (λ k h. parity-unrowed k (omega (arith, (kept-bytes kind rate high low D eh el).1))) parity
