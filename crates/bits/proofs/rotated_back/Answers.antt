-- `bits::rotated_back` meets its contract. Assumes nothing.
use mathlib.Core.Path.{◌≡◌, ap, ◌∙◌}
use Prim.Native.Nat.{ℕ, ◌-◌, ◌*◌, ◌/◌, ◌%◌, ◌^◌}
use native.Mathlib.Omega.{arith}
use lib.Bits.{bit_or}
use Rattle.bits.specs.Loops.Words.{word_byte}
use Rattle.bits.proofs.WordLaws.{rotated-back-byte}
use Rattle.bits.proofs.rotated_back.Goals as goal

pub returns : goal.returns
returns c b h =
    let w = c.args.word in
    let within : c.args.by * 8 % 32 ≡ c.args.by * 8 = omega arith in
    ap (λ (x : ℕ). word_byte x b)
    (c.rotate_right.ensures ∙ ap (λ (n : ℕ). bit_or (w / 2 ^ n) (w * 2 ^ ((32 - n) % 32) % 4294967296)) within)
    ∙ rotated-back-byte w (omega arith) c.args.by c.requires b h
