-- `payload_layout::layout_of` meets its contract. Assumes nothing.
use mathlib.Core.Path.{◌≡◌, ap, ap₂, ◌∙◌}
use Prim.Native.Nat.{ℕ, ◌<◌, ◌≤◌}
use native.Mathlib.Omega.{arith}
use Rattle.card.specs.Modes.{carrier_bits}
use Rattle.bands.specs.Bands.{carriers}
use Rattle.payload_layout.specs.Layouts.{layout_for, layout_of}
use Rattle.payload_layout.proofs.SectionLaws.{copies-pos, interleavers-pos}
use Rattle.payload_layout.proofs.LayoutLaws.{bits_of, bits-least, bits_most, enough, carriers-le}
use Rattle.payload_layout.proofs.layout_of.Goals as goal
use Rattle.payload_layout.proofs.layout_of.Goals.{After-carrier_bits-bits, After-carriers-carriers}

-- a band's carriers, and a modulation's bits
some-carriers : (c : After-carriers-carriers) → (0 < c.carriers-carriers.result) × (c.carriers-carriers.result ≤ 411)
some-carriers c =
    let a = c.args in
    let p = c.requires in
    rw c.carriers-carriers.ensures (omega (arith, interleavers-pos a.copies p.2, enough a.band a.copies p.0 p.2), carriers-le a.band p.0)

some_bits : (c : After-carrier_bits-bits) → (0 < c.carrier_bits-bits.result) × (c.carrier_bits-bits.result ≤ 4)
some_bits c =
    let is = bits_of c.args.modulation c.requires.1 in
    rw c.carrier_bits-bits.ensures (bits-least _ is, bits_most _ is)

pub one_copy-requires : goal.one_copy-requires
one_copy-requires c =
    let few = some_bits (goal.at.one_copy-requires c).After-carrier_bits-bits in
    ((some-carriers (goal.at.one_copy-requires c).After-carriers-carriers).0, (some-carriers (goal.at.one_copy-requires c).After-carriers-carriers).1, omega (arith, few), omega (arith, few), c.requires.3, c.requires.4)

pub returns-then-copies-eq1 : goal.returns-then-copies-eq1
unfolding layout_of
returns-then-copies-eq1 c =
    let a = c.args in
    c.one_copy.ensures
    ∙ ap₂ (λ (v b : ℕ). layout_for v b 1 a.coded) c.carriers-carriers.ensures c.carrier_bits-bits.ensures
    ∙ ap (λ (k : ℕ). layout_for (carriers a.band) (carrier_bits a.modulation) k a.coded) (let z : 1 ≡ a.copies = omega arith in z)

pub copied-requires : goal.copied-requires
copied-requires c =
    let p = c.requires in
    record {
      carriers_bound = ((some-carriers (goal.at.copied-requires c).After-carriers-carriers).1, (some_bits (goal.at.copied-requires c).After-carrier_bits-bits).0, (some_bits (goal.at.copied-requires c).After-carrier_bits-bits).1, p.3, p.4);
      copies_bound = (
        p.2,
        omega (arith, copies-pos c.args.copies p.2),
        rw c.carriers-carriers.ensures (enough c.args.band c.args.copies p.0 p.2),
      );
    }

pub returns : goal.returns
unfolding layout_of
returns c =
    let a = c.args in
    c.copied.ensures ∙ ap₂ (λ (v b : ℕ). layout_for v b a.copies a.coded) c.carriers-carriers.ensures c.carrier_bits-bits.ensures
