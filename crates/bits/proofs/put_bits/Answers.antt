-- `bits::put_bits` meets its contract: each half writes its four bits. Assumes nothing.
use mathlib.Core.Path.{ap, ◌∙◌}
use Prim.Native.Nat.{ℕ, ◌-◌}
use native.Mathlib.Omega.{arith}
use lib.ListN.{get_or}
use Rattle.bits.specs.Bits.{bit_at}
use Rattle.bits.specs.Loops.Words.{word_byte}
use Rattle.bits.proofs.ListLaws.{written_none}
use Rattle.bits.proofs.StoreLaws.{stored-run}
use Rattle.bits.proofs.WordLaws.{word-high, word_low}
use Rattle.bits.proofs.put_bits.Goals as goal

pub returns : goal.returns
returns c =
    let words = c.args.words.now in
    let byte = c.args.byte in
    let out = c.args.out.now in
    let at = λ (j i : ℕ). word_byte (get_or words i 0) j in
    c.scatter-2.ensures
    ∙ stored-run 4 4 _ (λ j. bit_at (7 - j) byte) out _
    (c.scatter.ensures
    ∙ stored-run 4 0 _ (λ j. bit_at (7 - j) byte) out out (written_none _ out) (omega arith) (λ j h. ap (at j) c.from.ensures ∙ word-high words byte j c.requires.0 (omega arith) h))
    (omega arith) (λ j h. ap (at j) c.from-2.ensures ∙ word_low words byte j c.requires.0 (omega arith) h)
