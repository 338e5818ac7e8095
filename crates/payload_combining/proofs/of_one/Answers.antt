-- `payload_combining::of_one` meets its contract. Assumes nothing.
use mathlib.Core.Path.{◌≡◌, ◌∙◌}
use native.Mathlib.Omega.{arith}
use Rattle.bits.proofs.NumberLaws.{lt-cases}
use Rattle.payload_combining.proofs.OnceLaws.{one-heard, one-lost}
use Rattle.payload_combining.proofs.of_one.Goals as goal

pub returns : goal.returns
returns c =
    let a = c.args.item in
    lt-cases a 2
    (λ l. let same : c.min.result ≡ a = omega (arith, c.min.ensures) in same ∙ one-heard a l)
    (λ l. let lost : c.min.result ≡ 2 = omega (arith, c.min.ensures) in lost ∙ one-lost a l)
