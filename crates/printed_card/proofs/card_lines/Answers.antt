-- `printed_card::card_lines` meets its contract: line after line, and the counts in version 2. Assumes nothing.
use mathlib.Core.Path.{◌≡◌, refl, ap, ap₂, ◌∙◌}
use mathlib.Core.List.{List, ◌++◌}
use Prim.Native.Nat.{ℕ, ◌≤◌}
use native.Mathlib.Omega.{arith}
use lib.ListN.{length, length-append}
use Rattle.std.proofs.lemmas.Grind.{common_steps}
use Rattle.text.specs.Text.{ascii, decimal, binary, line}
use Rattle.card.specs.declared.Card.{Card}
use Rattle.printed_card.specs.Short.{Short}
use Rattle.printed_card.specs.Text.{mode_lines, count_lines, card_lines}
use Rattle.printed_card.proofs.LengthLaws.{digit-line, taps-line, mode-fields, mode-short, counts-short, with_counts, without_counts}
use Rattle.printed_card.proofs.card_lines.Goals as goal
use Rattle.printed_card.proofs.card_lines.Goals.{After-push_number-5, After-push_line, After-push_number-6, then-counted, else-counted}

-- the mode's lines
mode : (c : After-push_number-5) → c.push_number-5.new.self ≡ mode_lines c.args.c
unfolding mode_lines
mode c =
    let card = c.args.c in
    let next = λ (name : List ℕ) (n : ℕ) (t : List ℕ). t ++ line name (decimal n) in
    let version = c.push_number.ensures ∙ ap (next (ascii "version") card.version) c.new-text.ensures in
    let band = c.push_number-2.ensures ∙ ap (next (ascii "band") card.band) version in
    let kind = c.push_number-3.ensures ∙ ap (next (ascii "kind") card.kind) band in
    let rate = c.push_number-4.ensures ∙ ap (next (ascii "rate") card.rate) kind in
    c.push_number-5.ensures ∙ ap (next (ascii "modulation") card.modulation) rate

-- the mode's lines and the taps'
taps : (c : After-push_line) → c.push_number-5.new.self ≡ mode_lines c.args.c
    → c.push_line.new.self ≡ mode_lines c.args.c ++ line (ascii "taps") (binary 11 c.args.c.taps)
taps c m = c.push_line.ensures ∙ ap₂ (λ (t d : List ℕ). t ++ line (ascii "taps") d) m c.tap_digits.ensures

-- they are short
short : (c : Card) (text : List ℕ) → Short c → text ≡ mode_lines c ++ line (ascii "taps") (binary 11 c.taps) → length text ≤ 61
short c text s e = omega (arith, ap length e, length-append {A = ℕ}, mode-short c s, taps-line c.taps (binary 11 c.taps) refl)

pub push_number-requires-2 : goal.push_number-requires-2
push_number-requires-2 c = let fields = mode-fields c.args.c c.requires in grind (arith, common_steps)

pub push_number-requires-3 : goal.push_number-requires-3
push_number-requires-3 c = let fields = mode-fields c.args.c c.requires in grind (arith, common_steps)

pub push_number-requires-4 : goal.push_number-requires-4
push_number-requires-4 c = let fields = mode-fields c.args.c c.requires in grind (arith, common_steps)

pub push_number-requires-5 : goal.push_number-requires-5
push_number-requires-5 c = let fields = mode-fields c.args.c c.requires in grind (arith, common_steps)

pub push_line-requires : goal.push_line-requires
push_line-requires c =
    let mode = mode (goal.at.push_line-requires c).After-push_number-5 in
    (omega arith, omega (arith, ap length mode, mode-short c.args.c c.requires, taps-line c.args.c.taps c.tap_digits.result c.tap_digits.ensures))

pub push_number-requires-then-counted : goal.push_number-requires-then-counted
push_number-requires-then-counted c =
    let from = goal.at.push_number-requires-then-counted c in
    let few = short c.args.c _ c.requires (taps from.After-push_line (mode from.After-push_number-5)) in
    (omega arith, omega (arith, few))

pub push_number-requires-then-counted-2 : goal.push_number-requires-then-counted-2
push_number-requires-then-counted-2 c =
    let from = goal.at.push_number-requires-then-counted-2 c in
    let few = short c.args.c _ c.requires (taps from.After-push_line (mode from.After-push_number-5)) in
    let blocks = digit-line (ascii "blocks") c.args.c.blocks c.requires.blocks-lt in
    (omega arith, omega (arith, few, blocks, ap length c.push_number-then-counted.ensures, length-append {A = ℕ}))

pub push_number-requires-6 : goal.push_number-requires-6
push_number-requires-6 c =
    let from = goal.at.push_number-requires-6 c in
    let few = short c.args.c _ c.requires (taps from.After-push_line (mode from.After-push_number-5)) in
    let counts : c.if-counted.text ≡ c.push_line.new.self ++ count_lines c.args.c = elim c.if-counted.branch [
      | then-counted w ↦ with_counts c.args.c _ w.if-counted.true w.push_number-then-counted.ensures (w.text-is ∙ w.push_number-then-counted-2.ensures)
      | else-counted w ↦ without_counts c.args.c _ w.if-counted.false w.text-is
    ] in
    (omega arith, omega (arith, few, ap length counts, counts-short c.args.c c.requires, length-append {A = ℕ}))

pub returns : goal.returns
unfolding card_lines
returns c =
    let from = goal.at.returns c in
    let taps = taps from.After-push_line (mode from.After-push_number-5) in
    let counts : c.if-counted.text ≡ c.push_line.new.self ++ count_lines c.args.c = elim c.if-counted.branch [
      | then-counted w ↦ with_counts c.args.c _ w.if-counted.true w.push_number-then-counted.ensures (w.text-is ∙ w.push_number-then-counted-2.ensures)
      | else-counted w ↦ without_counts c.args.c _ w.if-counted.false w.text-is
    ] in
    cc
