-- `interleaver::Block::move_word` meets its contract. Assumes nothing.
use mathlib.Core.Path.{ap, ◌∙◌}
use mathlib.Core.Bool.{not}
use borrow.Author.Tests.{eq-eqb, ne_eqb}
use Prim.Native.Nat.{ℕ, ◌+◌, ◌-◌, ◌%◌}
use Rattle.bits.specs.Loops.Words.{word_byte}
use Rattle.interleaver.proofs.NibbleLaws.{nibble-out, nibble-back}
use Rattle.interleaver.proofs.Block.move_word.Goals as goal

pub returns-then-this-ne0 : goal.returns-then-this-ne0
returns-then-this-ne0 g c =
    nibble-back c.args.n c.args.first _ c.args.self.now.from.now c.args.to.now _ c.gather-word.result c.rotated_back.result
    (ap not (ne_eqb g.row.BACK 0 c.if-this-ne0.true)) c.requires.1.row-to c.gather-word.ensures
    (λ b h. c.rotated_back.ensures b h ∙ ap (λ (t : ℕ). word_byte c.gather-word.result ((b + t) % 4)) c.requires.0) c.scatter.ensures

pub returns-else-this-ne0 : goal.returns-else-this-ne0
returns-else-this-ne0 g c =
    nibble-out c.args.n c.args.first _ c.args.self.now.from.now c.args.to.now _ c.gather-word-else-this-ne0.result c.rotated.result
    (ap not (eq-eqb g.row.BACK 0 c.if-this-ne0.false)) c.gather-word-else-this-ne0.ensures
    (λ b h. c.rotated.ensures b h ∙ ap (λ (t : ℕ). word_byte c.gather-word-else-this-ne0.result ((b + (4 - t)) % 4)) c.requires.0) c.scatter-else-this-ne0.ensures
