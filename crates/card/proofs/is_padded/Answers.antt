-- `card::is_padded` meets its contract. Assumes nothing.
use native.Mathlib.Omega.{arith}
use Rattle.card.proofs.CardLaws.{padding-byte}
use Rattle.card.proofs.is_padded.Goals as goal

pub returns-then-version-eq2 : goal.returns-then-version-eq2
returns-then-version-eq2 c = grind (arith, padding-byte)
