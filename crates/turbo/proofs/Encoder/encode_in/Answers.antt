-- `turbo::Encoder::encode_in` meets its contract. Assumes nothing.
use lib.ListN.{length-replicate}
use Rattle.turbo.proofs.ParityLaws.{inputs}
use Rattle.turbo.proofs.Encoder.encode_in.Goals as goal

pub kept_parity-requires : goal.kept_parity-requires
kept_parity-requires g c =
    (inputs c.args.self.kind _ _ _ c.args.self.kind_in_range c.requires.whole.0 (rw length-replicate c.requires.room.1) c.second_bytes.ensures.out_after, c.requires.whole.1)
