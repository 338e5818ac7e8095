-- `bits::put_number` meets its contract: the last n of the number's eight bytes. Assumes nothing.
use mathlib.Core.Path.{ap, ◌∙◌}
use mathlib.Core.List.{List}
use Prim.Native.Nat.{ℕ, ◌-◌}
use lib.ListN.{take, drop}
use Rattle.bits.proofs.BitLaws.{last-bytes}
use Rattle.bits.proofs.ListLaws.{written-list}
use Rattle.bits.proofs.put_number.Goals as goal

pub returns : goal.returns
returns c =
    let n = c.args.n in
    c.put.ensures
    ∙ written-list n _ _ c.args.out.now
    (ap (λ (l : List ℕ). take (8 - (8 - n)) (drop (8 - n) l)) c.to_be_bytes.ensures ∙ last-bytes n c.args.number c.requires.0)
