-- `constituent::parity_bytes` meets its contract. Assumes nothing.
use mathlib.Core.Path.{◌≡◌}
use Prim.Native.Nat.{◌*◌}
use native.Mathlib.Omega.{arith}
use lib.Dec.{lit<}
use lib.ListN.{length}
use Rattle.constituent.specs.Pairs.{pair_count}
use Rattle.constituent.proofs.StateLaws.{state-lt}
use Rattle.constituent.proofs.PassLaws.{ring-from}
use Rattle.constituent.proofs.parity_bytes.Goals as goal

pub ring_starts-from-requires : goal.ring_starts-from-requires
ring_starts-from-requires c =
    let e = c.pass_one.ensures in
    (c.requires.0.defined, rw e.one (state-lt _ _ 0 (lit< tt) _), rw e.two (state-lt _ _ 0 (lit< tt) _))

pub pack_parity-requires-clause-started : goal.pack_parity-requires-clause-started
pack_parity-requires-clause-started c =
    let a = c.args in
    let e = c.pass_one.ensures in
    let n = length a.bytes.now in
    let q : 4 * n ≡ pair_count a.kind = omega (arith, c.requires.0.whole) in (
      record {
        one = ring-from a.kind c.new-encoder.result.taps a.bytes.now n _ _ q e.one c.ring_starts-from.ensures.0;
        two = ring-from a.kind c.new-encoder.result.taps a.second.now n _ _ q e.two c.ring_starts-from.ensures.1;
      },
      c.requires.1,
    )
