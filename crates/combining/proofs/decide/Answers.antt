-- `combining::decide` meets its contract: the counters tell the majority. Assumes nothing.
use Rattle.combining.proofs.CounterLaws.{counters-decide}
use Rattle.combining.proofs.decide.Goals as goal

pub returns : goal.returns
returns c =
    let symbols = c.args.symbols.now in
    counters-decide symbols.carriers symbols.offsets.now c.args.items.now _ _ symbols.narrow c.requires.few
    c.counters_of.ensures c.decide_counters.ensures
