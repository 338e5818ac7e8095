-- `fec::source_rows` meets its contract. Assumes nothing.
use mathlib.Core.Path.{◌≡◌, refl, sym, ap, ◌∙◌}
use Prim.Native.Nat.{ℕ, ◌*◌, ◌/◌, ◌≤◌}
use native.Mathlib.Omega.{arith}
use lib.ListN.{length, take, length-take, length-drop}
use lib.Seq.{length-take-le}
use Rattle.bits.specs.Bits.{bit_of, byte_of}
use Rattle.bits.specs.Lists.{written}
use Rattle.bits.proofs.ListLaws.{length-written}
use Rattle.turbo.specs.Puncture.{kept_count}
use Rattle.turbo.specs.Parity.{kept_bit}
use Rattle.fec.proofs.CodingLaws.{few_bytes}
use Rattle.fec.proofs.RowLaws.{data-served, parity-served, kept-bytes, all-rows, parity-long, parity-held, rows_written}
use Rattle.fec.proofs.source_rows.Goals as goal
use Rattle.fec.proofs.source_rows.Goals.{After-encode, After-to_rows}

-- the encoder is that of the coding
kept-is : (c : After-encode) → c.kept_count-kept.result ≡ kept_count c.args.coding.kind c.args.coding.rate
kept-is c = let (k, r, t) = c.from-encoder.ensures in rw (k, r) at c.kept_count-kept.ensures

made : (c : After-encode)
    → c.encode.new.out ≡ written (kept_count c.args.coding.kind c.args.coding.rate / 8) (byte_of (kept_bit c.args.coding.kind c.args.coding.rate c.args.coding.taps (bit_of c.args.bytes.now))) c.args.parity.now
made c = let (k, r, t) = c.from-encoder.ensures in rw (k, r, t) at c.encode.ensures

-- the parity bytes are there, and so are the data rows
made-long : (c : After-encode) → kept_count c.args.coding.kind c.args.coding.rate / 8 ≤ length c.encode.new.out
made-long c =
    parity-long c.args.coding.kind c.args.coding.rate _ _ c.args.coding.defined refl refl c.args.coding.taps c.args.bytes.now _ _ c.requires.rate_in_bounds.0 (made c)

data-long : (c : After-to_rows)
    → (length c.to_rows.new.out ≡ length c.args.rows.now) × (4 * c.data_rows-height.result ≤ length c.to_rows.new.out)
data-long c =
    let e = c.data_rows-height.ensures in
    let h : 4 * c.data_rows-height.result ≤ length c.args.rows.now = omega (arith, c.requires.rate_in_bounds.1, all-rows c.args.coding.kind c.args.coding.rate _ _ c.args.coding.defined e refl) in
    let l = ap length c.to_rows.ensures ∙ length-written (4 * c.data_rows-height.result) _ c.args.rows.now h in
    (l, omega (arith, l))

pub overflow_mul-data : goal.overflow_mul-data
overflow_mul-data c = omega (arith, c.data_rows-height.ensures, few_bytes c.args.coding.kind c.args.coding.defined.kind-lt)

pub to_rows-requires : goal.to_rows-requires
to_rows-requires c =
    let e = c.data_rows-height.ensures in
    let s = data-served c.args.coding.kind c.args.coding.rate _ _ c.args.coding.defined e refl in
    (s, omega (arith, c.requires.whole, e), omega (arith, c.requires.rate_in_bounds.1, all-rows c.args.coding.kind c.args.coding.rate _ _ c.args.coding.defined e refl))

pub slice_bounds-to_rows-end-2 : goal.slice_bounds-to_rows-end-2
slice_bounds-to_rows-end-2 c =
    let at = (goal.at.slice_bounds-to_rows-end-2 c).After-encode in
    sym (length-take-le _ _ (omega (arith, kept-is at, made-long at)))

pub slice_bounds-to_rows-count : goal.slice_bounds-to_rows-count
slice_bounds-to_rows-count c = omega (arith, data-long (goal.at.slice_bounds-to_rows-count c).After-to_rows)

pub slice_bounds-to_rows-start : goal.slice_bounds-to_rows-start
slice_bounds-to_rows-start c = omega (arith, data-long (goal.at.slice_bounds-to_rows-start c).After-to_rows)

pub to_rows-requires-2 : goal.to_rows-requires-2
to_rows-requires-2 c =
    let e = c.data_rows-height.ensures in
    let f = c.parity_rows.ensures in
    let k = kept-is (goal.at.to_rows-requires-2 c).After-encode in
    let s = parity-served c.args.coding.kind c.args.coding.rate _ _ c.args.coding.defined e f in
    let all = all-rows c.args.coding.kind c.args.coding.rate _ _ c.args.coding.defined e f in
    let n = kept-bytes c.args.coding.kind c.args.coding.rate _ _ c.args.coding.defined e f in (
      s,
      simp length-take (omega (arith, k, made-long (goal.at.to_rows-requires-2 c).After-encode, n.0, s.even)),
      simp (length-take, length-drop) (omega (arith, data-long (goal.at.to_rows-requires-2 c).After-to_rows, all, c.requires.rate_in_bounds.1)),
    )

pub returns : goal.returns
returns c =
    let at = (goal.at.returns c).After-encode in
    rows_written c.args.coding.kind c.args.coding.rate _ _ c.args.coding.defined c.data_rows-height.ensures c.parity_rows.ensures c.args.coding.taps c.args.bytes.now
    c.args.rows.now _ _ _
    (λ i l.
    ap (λ (n : ℕ). bit_of (take (n / 8) c.encode.new.out) i) (kept-is at)
    ∙ parity-held c.args.coding.kind c.args.coding.rate _ _ c.args.coding.defined c.data_rows-height.ensures c.parity_rows.ensures c.args.coding.taps c.args.bytes.now _ _ c.requires.rate_in_bounds.0 (made at) i l)
    c.to_rows.ensures c.to_rows-2.ensures
