-- `diversity::Runs::begin` meets its contract: where items follow, a symbol that is at its end has another behind it. Assumes nothing.
use Rattle.std.proofs.Common.{◌<◌, length, refl, arith}
use Rattle.diversity.proofs.CycleLaws.{run-symbol, run-place}
use Rattle.diversity.proofs.Runs.begin.Goals as goal

pub bounds-self-self : goal.bounds-self-self
bounds-self-self c =
    let self = c.args.self.now in
    run-symbol self.symbols.carriers self.symbols.offsets.now self.begun 0 self.item (omega (arith, self.at_place)) (omega arith) c.requires

pub overflow_add-self : goal.overflow_add-self
overflow_add-self c =
    let self = c.args.self.now in
    let symbol : self.begun < length self.symbols.offsets.now
    = run-symbol self.symbols.carriers self.symbols.offsets.now self.begun 0 self.item (omega (arith, self.at_place)) (omega arith) c.requires in
    omega (arith, symbol)

pub returns-then-self : goal.returns-then-self
returns-then-self c =
    let self = c.args.self.now in
    (refl, refl, run-place self.symbols.carriers self.symbols.offsets.now self.begun 0 self.item (omega (arith, self.at_place)) (omega arith) c.requires)
