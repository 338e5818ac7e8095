-- What holds of a record that was read. What stands in the file is the file's, so these are bounds. Assumes nothing.
use Rattle.std.specs.Prelude.{◌≡◌, Bool, true, cond, List, ℕ, ◌≤◌, eqb, ltb, length, Option, Result, IfOk, IfSome}
use Rattle.std.specs.Borrow.{Bor}
use Rattle.record_file.specs.declared.Broken.{Broken}
use Rattle.record_file.specs.declared.Entry.{Entry}

-- a card has the length that its call has: a map's one byte, a slice's eighteen, a card_write's 80; that of an entry may have any
abbrev pub serves : ℕ → ℕ → Bool
serves call n = cond (eqb call 6) (eqb n 1) (cond (eqb call 7) (eqb n 18) (cond (eqb call 8) (eqb n 80) (cond (eqb call 9) true (ltb call 6))))

-- of the bytes that were read there are at most so many
abbrev pub AtMost : ℕ → Result (Bor (List ℕ)) Broken → Type 0
AtMost most r = IfOk r (λ part. length part.now ≤ most)

-- of a record every part is at most as long as the memory lent for it, and its card has the length that its call has
abbrev pub Whole : ℕ → ℕ → ℕ → ℕ → Result (Option Entry) Broken → Type 0
Whole label card input output r =
    IfOk r (λ next. IfSome next (λ e.
    (length e.label.now ≤ label) × (length e.card.now ≤ card) × (length e.input.now ≤ input) × (length e.expected.now ≤ output)
    × (serves e.head.call (length e.card.now) ≡ true)))
