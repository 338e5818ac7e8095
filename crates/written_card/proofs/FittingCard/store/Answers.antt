-- `written_card::FittingCard::store` meets its contract: four bytes before the serial, or three. Assumes nothing.
use native.Mathlib.Omega.{arith}
use Rattle.written_card.proofs.WriteLaws.{version-1, stored-1, stored-2}
use Rattle.written_card.proofs.FittingCard.store.Goals as goal

pub put_bytes-requires : goal.put_bytes-requires
put_bytes-requires c =
    (omega arith, rw c.if-c-eq2.true at c.requires.1)

pub returns-then-c-eq2 : goal.returns-then-c-eq2
returns-then-c-eq2 c =
    stored-2 _ _ _ c.if-c-eq2.true (rw c.head-head.ensures at c.put_bytes.ensures)

pub put_bytes-requires-else-c-eq2 : goal.put_bytes-requires-else-c-eq2
put_bytes-requires-else-c-eq2 c =
    let one = version-1 _ c.args.self.now.fits.version c.if-c-eq2.false in
    (omega arith, rw one at c.requires.1)

pub returns-else-c-eq2 : goal.returns-else-c-eq2
returns-else-c-eq2 c =
    let one = version-1 _ c.args.self.now.fits.version c.if-c-eq2.false in
    stored-1 _ _ _ one (c.requires.0 one) (rw c.head-head.ensures at c.put_bytes-else-c-eq2.ensures)
