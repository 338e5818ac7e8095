-- `bits::pack_nibble` meets its contract, by a test at all four bits. Assumes nothing.
use mathlib.Core.Path.{ap, ◌∙◌}
use Prim.Native.Nat.{ℕ, ◌+◌, ◌*◌, ◌/◌, ◌%◌}
use Rattle.bits.proofs.RangeLaws.{agree₄}
use Rattle.bits.proofs.pack_nibble.Goals as goal

pub returns : goal.returns
returns c =
    ap (λ (w : ℕ). w * 134480385 / 16777216 % 16) (c.from-word.ensures ∙ c.from_le_bytes.ensures)
    ∙ agree₄ 2 2 2 2 (λ a b c d. (a + b * 256 + c * 65536 + d * 16777216) * 134480385 / 16777216 % 16)
    (λ a b c d. a * 8 + b * 4 + c * 2 + d) tt _ _ _ _ c.requires.0 c.requires.1 c.requires.2 c.requires.3
