-- `payload_layout::one_copy` meets its contract: one division gives what the section's arithmetic does. Assumes nothing.
use Prim.Native.Nat.{◌*◌, ◌<◌}
use native.Mathlib.Nat.{mul-pos}
use native.Mathlib.Omega.{arith}
use Rattle.payload_layout.proofs.NumberLaws.{symbols-hold, symbols-tight, one-made}
use Rattle.payload_layout.proofs.one_copy.Goals as goal
use Rattle.payload_layout.proofs.one_copy.Goals.{Start, After-div_ceil-symbols}

-- a symbol has bits
some : (c : Start) → 0 < c.args.bits * c.args.carriers
some c = mul-pos c.requires.2 c.requires.0

pub div_ceil-symbols-requires : goal.div_ceil-symbols-requires
div_ceil-symbols-requires c = some c

pub overflow_mul-result : goal.overflow_mul-result
overflow_mul-result c =
    let a = c.args in
    rw c.div_ceil-symbols.ensures (grind (arith, symbols-tight (a.bits * a.carriers) a.coded (mul-pos c.requires.2 c.requires.0)))

pub overflow_sub-result : goal.overflow_sub-result
overflow_sub-result c =
    let a = c.args in
    rw c.div_ceil-symbols.ensures (symbols-hold (a.bits * a.carriers) a.coded (mul-pos c.requires.2 c.requires.0))

pub returns : goal.returns
returns c =
    let a = c.args in
    rw c.div_ceil-symbols.ensures (one-made a.carriers a.bits a.coded (mul-pos c.requires.2 c.requires.0))
