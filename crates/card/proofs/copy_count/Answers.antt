-- `card::copy_count` meets its contract: codes 6 and 7 stand behind the table's end. Assumes nothing.
use Rattle.card.proofs.CardLaws.{count_of}
use Rattle.card.proofs.copy_count.Goals as goal

pub returns : goal.returns
returns c = count_of _ c.requires
