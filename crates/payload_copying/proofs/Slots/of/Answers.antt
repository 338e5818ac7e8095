-- `payload_copying::Slots::of` meets its contract. Assumes nothing.
use Rattle.bits.proofs.ListLaws.{written_all}
use Rattle.payload_copying.proofs.SlottedLaws.{used-product, addresses-of}
use Rattle.payload_copying.proofs.Slots.of.Goals as goal

pub invariant_of-result : goal.invariant_of-result
invariant_of-result c =
    record {
      slotted = c.requires;
      addresses = addresses-of c.args.layout c.requires _ (written_all _ _ _ _ _ c.fill_table.ensures (used-product c.args.layout c.requires));
    }
