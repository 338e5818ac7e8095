-- `columns::row` meets its contract. Assumes nothing.
use Prim.Native.Nat.{◌-◌}
use native.Mathlib.Omega.{arith}
use Rattle.columns.proofs.RowLaws.{row-byte}
use Rattle.columns.proofs.row.Goals as goal

pub returns : goal.returns
returns c = row-byte c.args.word (7 - c.args.j) (omega arith)
