-- `turbo::Encoder::encode` meets its contract. Assumes nothing.
use mathlib.Core.Path.{◌≡◌, ap}
use Prim.Native.Nat.{◌≤◌}
use native.Mathlib.Omega.{arith}
use Rattle.card.specs.Modes.{block_bytes}
use Rattle.constituent.specs.Pairs.{pair_count}
use Rattle.constituent.proofs.PairLaws.{few-pairs}
use Rattle.turbo.proofs.Encoder.encode.Goals as goal

pub encode_in-requires-clause-room : goal.encode_in-requires-clause-room
encode_in-requires-clause-room c =
    let e : block_bytes c.args.self.kind ≡ 16 = ap block_bytes c.if-self-eq0.true in
    (omega (arith, e), omega (arith, e))

pub encode_in-requires-else-self-eq0-clause-room : goal.encode_in-requires-else-self-eq0-clause-room
encode_in-requires-else-self-eq0-clause-room c =
    let e : pair_count c.args.self.kind ≤ 2080 = omega (arith, few-pairs c.args.self.kind c.args.self.kind_in_range) in
    (omega (arith, e), omega (arith, e))
