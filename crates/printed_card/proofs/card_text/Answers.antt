-- `printed_card::card_text` meets its contract: the text is made first, and put where it has room. Assumes nothing.
use mathlib.Core.Path.{◌∙◌}
use borrow.Author.Tests.{lt-ltb, le-ltb}
use Rattle.printed_card.specs.Text.{text_card}
use Rattle.printed_card.proofs.card_text.Goals as goal

pub returns-then-out-len : goal.returns-then-out-len
unfolding text_card
returns-then-out-len c =
    let text = c.as_bytes-bytes.ensures ∙ c.text_of-text.ensures in
    let short = lt-ltb _ _ (rw text at c.if-out-len.true) in
    record { answer = rw text (simp short); bytes = simp short }

pub returns : goal.returns
unfolding text_card
returns c =
    let text = c.as_bytes-bytes.ensures ∙ c.text_of-text.ensures in
    let room = le-ltb _ _ (rw text at c.if-out-len.false) in
    record { answer = rw text (simp room); bytes = simp room (rw text at c.put.ensures) }
