-- `written_card::put_bytes` meets its contract: the head, and the serial behind it. Assumes nothing.
use mathlib.Core.Path.{◌∙◌}
use Prim.Native.Nat.{◌^◌, ◌<◌}
use Rattle.bits.proofs.ListLaws.{written-ext, written-part}
use Rattle.written_card.specs.Loops.Fields.{card_byte}
use Rattle.written_card.proofs.WriteLaws.{head_byte, serial-byte}
use borrow.Author.Rules.{rules}
use Rattle.written_card.proofs.put_bytes.Goals as goal

pub returns : goal.returns
returns c =
    let a = c.args in
    let small : a.serial < 2 ^ 64 = search rules in
    written-part a.bytes 8 (card_byte a.bytes a.head a.serial) _ _ _ _
    (c.put_number.ensures ∙ written-ext a.bytes _ _ _ (λ i h. head_byte a.bytes a.head a.serial i small h))
    (serial-byte a.bytes a.head a.serial) c.put_number-2.ensures
