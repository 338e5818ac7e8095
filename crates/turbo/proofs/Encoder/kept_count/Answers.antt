-- `turbo::Encoder::kept_count` meets its contract. Assumes nothing.
use mathlib.Core.Path.{ap, ◌∙◌}
use Prim.Native.Nat.{ℕ, ◌*◌, ◌/◌}
use lib.Count.{ones}
use Rattle.turbo.specs.Puncture.{pattern}
use Rattle.turbo.proofs.PunctureLaws.{kept-count}
use Rattle.turbo.proofs.Encoder.kept_count.Goals as goal

pub returns : goal.returns
returns c =
    let e = c.args.self in
    ap (λ (n : ℕ). 4 * n / 8 * ones (pattern e.rate)) c.block_bytes-pairs.ensures ∙ kept-count e.kind e.rate e.kind_in_range e.rate_in_range
