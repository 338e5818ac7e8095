-- `diversity::half_cycle` meets its contract. The invariant: the bits of the places passed are written. Assumes nothing.
use Rattle.std.proofs.Common.{refl, arith, length-set, rules}
use Rattle.bits.proofs.ListLaws.{written_none}
use Rattle.diversity.proofs.CycleLaws.{place-written}
use Rattle.diversity.proofs.half_cycle.Goals as goal

pub loop-c-init : goal.loop-c-init
loop-c-init c = (search rules, search rules, written_none _ _, refl)

pub loop-c-preserved : goal.loop-c-preserved
loop-c-preserved c =
    let inv = c.loop-c.invariant in (
      search rules,
      search rules,
      place-written _ _ _ _ c.args.coded.now c.args.cycle.now _ c.requires.0 c.loop-c-test.true
          (omega arith) inv.2 inv.0 inv.1,
      simp length-set inv.3,
    )
