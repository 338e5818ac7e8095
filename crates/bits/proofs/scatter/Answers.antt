-- `bits::scatter` meets its contract. Assumes nothing.
use mathlib.Core.Path.{refl, ap}
use mathlib.Core.List.{List}
use Prim.Native.Nat.{ℕ, ◌+◌, ◌*◌}
use native.Mathlib.Omega.{arith}
use lib.ListN.{get_or}
use Rattle.bits.specs.Loops.Words.{word_byte}
use Rattle.bits.proofs.StoreLaws.{stored-four}
use Rattle.bits.proofs.WordLaws.{low_byte}
use Rattle.bits.proofs.scatter.Goals as goal

pub returns : goal.returns
unfolding word_byte
returns c =
    let w = c.args.word in
    let byte = λ (i : ℕ). ap (λ (l : List ℕ). get_or l i 0) c.to_le_bytes.ensures in
    stored-four (λ k. k * c.args.apart + c.args.at) (word_byte w) c.args.to.now
    (omega arith) (omega arith) refl refl
    (low_byte w (byte 0)) (byte 1) (byte 2) (byte 3)
