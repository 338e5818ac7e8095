-- `scrambler::Register::step` meets its contract: the last bit of the exclusive-or is that of the two stages. Assumes nothing.
use mathlib.Core.Path.{◌≡◌, ap}
use Prim.Native.Nat.{ℕ, ◌+◌, ◌*◌, ◌/◌, ◌%◌}
use lib.Bits.{bit_xor, xor_mod}
use Rattle.scrambler.specs.Scrambler.{feedback, shifted}
use Rattle.scrambler.proofs.Register.step.Goals as goal

pub returns : goal.returns
unfolding feedback shifted
returns c =
    let r = c.args.self.0 in
    let stages : bit_xor (r / 4) (r / 512) % 2 ≡ feedback r = xor_mod (r / 4) (r / 512) 1 in
    (stages, ap (λ (b : ℕ). r % 512 * 2 + b) stages)
