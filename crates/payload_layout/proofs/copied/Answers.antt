-- `payload_layout::copied` meets its contract: the section's numbers, by the table's column. Assumes nothing.
use Prim.Native.Nat.{ℕ, ◌*◌, ◌/◌, ◌<◌, ◌≤◌}
use native.Mathlib.Omega.{arith}
use Rattle.payload_layout.specs.Layouts.{span_of, used_of, group_of}
use Rattle.payload_layout.proofs.SectionLaws.{copies-le}
use Rattle.payload_layout.proofs.NumberLaws.{symbol-pos, group-pos, group-lt, copied-made}
use Rattle.payload_layout.proofs.copied.Goals as goal
use Rattle.payload_layout.proofs.copied.Goals.{After-column-all}

-- the bits of a symbol's used carriers, and of a group
abbrev symbol : (all carriers bits : ℕ) → ℕ
symbol all carriers bits = bits * (all * (carriers / all))

abbrev group : (all carriers bits copies : ℕ) → ℕ
group all carriers bits copies = bits * (all * (carriers / all) / copies)

some-symbol : (c : After-column-all) → 0 < symbol c.column-all.result.all c.args.carriers c.args.bits
unfolding used_of span_of
some-symbol c =
    let a = c.args in
    let p = c.requires.carriers_bound in
    let q = c.requires.copies_bound in
    rw c.column-all.ensures.0 (symbol-pos a.carriers a.bits a.copies q.0 q.2 p.0 p.1 p.2)

some-group : (c : After-column-all)
    → (0 < group c.column-all.result.all c.args.carriers c.args.bits c.args.copies) × (group c.column-all.result.all c.args.carriers c.args.bits c.args.copies ≤ 1644)
unfolding group_of used_of span_of
some-group c =
    let a = c.args in
    let p = c.requires.carriers_bound in
    let q = c.requires.copies_bound in
    rw c.column-all.ensures.0 (
      group-pos a.carriers a.bits a.copies q.0 q.2 p.0 p.1 p.2,
      group-lt a.carriers a.bits a.copies q.0 q.2 p.0 p.1 p.2,
    )

pub last_group_bits-requires : goal.last_group_bits-requires
last_group_bits-requires c = (some-symbol c, (some-group c).0)

pub shift_run-run-requires : goal.shift_run-run-requires
shift_run-run-requires c =
    (omega arith, copies-le c.args.copies c.requires.copies_bound.0, omega (arith, some-group (goal.at.shift_run-run-requires c).After-column-all))

pub nonzero_div-result : goal.nonzero_div-result
nonzero_div-result c = (some-group (goal.at.nonzero_div-result c).After-column-all).0

pub returns : goal.returns
returns c =
    let a = c.args in
    let column = c.column-all.ensures in
    copied-made a.carriers a.bits a.copies a.coded _ _ _ _ _ _ column.0 column.1 (λ e. omega arith)
    c.last_group_bits.ensures.0 c.last_symbol_bits.ensures c.shift_run-run.ensures c.rounded_down.ensures
