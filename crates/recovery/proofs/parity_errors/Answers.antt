-- `recovery::parity_errors` meets its contract. Assumes nothing.
use mathlib.Core.Path.{refl, sym, ◌∙◌}
use Prim.Native.Nat.{◌/◌}
use native.Mathlib.Omega.{arith}
use Rattle.bits.specs.Bits.{bit_of}
use Rattle.turbo.specs.Puncture.{kept_count}
use Rattle.turbo.specs.Parity.{kept_bit}
use Rattle.turbo.proofs.ParityLaws.{kept-binary}
use Rattle.fec.proofs.CodingLaws.{kept-most}
use Rattle.fec.proofs.RowLaws.{kept-bytes}
use Rattle.recovery.proofs.PartLaws.{Holds, holds, first-length, counted}
use Rattle.recovery.proofs.parity_errors.Goals as goal
use Rattle.recovery.proofs.parity_errors.Goals.{After-encode}

-- the encoder is that of the coding
again_held : (c : After-encode)
    → Holds (kept_count c.args.coding.kind c.args.coding.rate / 8) (kept_bit c.args.coding.kind c.args.coding.rate c.args.coding.taps (bit_of c.args.bytes.now)) c.encode.new.out
again_held c = let (k, r, t) = c.from.ensures in holds _ _ c.args.again.now _ (rw (k, r, t) at c.encode.ensures)

pub slice_bounds-disagreements-end-2 : goal.slice_bounds-disagreements-end-2
slice_bounds-disagreements-end-2 c = c.requires.1 ∙ sym (first-length c.requires.1 (again_held (goal.at.slice_bounds-disagreements-end-2 c).After-encode))

pub disagreements-requires : goal.disagreements-requires
disagreements-requires c =
    let l = first-length c.requires.1 (again_held (goal.at.disagreements-requires c).After-encode) in
    (l ∙ sym c.requires.1, omega (arith, l, kept-most c.args.coding.kind c.args.coding.rate c.args.coding.defined))

pub returns : goal.returns
returns c =
    c.disagreements.ensures
    ∙ counted _ _ _ _ _ c.args.parity.now c.requires.1 (kept-bytes c.args.coding.kind c.args.coding.rate _ _ c.args.coding.defined refl refl).1 (λ i h. kept-binary _ _ _ _ i) (again_held (goal.at.returns c).After-encode)
