-- `scrambler::scramble` meets its contract. Assumes nothing.
use Rattle.std.proofs.Common.{arith, rules}
use Rattle.scrambler.proofs.ScramblerLaws.{scramble-added}
use Rattle.scrambler.proofs.scramble.Goals as goal

pub returns : goal.returns
returns c =
    scramble-added c.args.bytes.now c.args.out.now c.put_bytes.new.out _ (λ k. omega (arith, c.type_inv.bytes k))
    (search rules) c.put_bytes.ensures c.add_bytes.ensures
