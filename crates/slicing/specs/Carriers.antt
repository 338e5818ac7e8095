-- A list of items taken carrier by carrier, mapped and sliced. Assumes nothing.
use Rattle.std.specs.Prelude.{ℕ, ◌+◌, ◌*◌, ◌/◌, ◌%◌, get_or}
use Rattle.card.specs.Modes.{carrier_bits}
use Rattle.constellation.specs.declared.Point.{Point}
use Rattle.constellation.specs.Mapping.{point_of}
use Rattle.slicing.specs.declared.Received.{Received}
use Rattle.slicing.specs.declared.Received.TheVariants.{Heard}
use Rattle.slicing.specs.Slicing.{items_of}

-- a point that is received as it was sent
abbrev pub heard : Point → Received
heard p = Heard p.i p.q

-- the point of carrier c, where the items d are taken in order, as many a carrier as the modulation has bits
unfoldable pub carrier_point : ℕ → (ℕ → ℕ) → ℕ → Point
carrier_point modulation d c = point_of modulation (λ j. d (carrier_bits modulation * c + j))

-- item k of the items d after each carrier was mapped, received as sent, and sliced
unfoldable pub through_points : ℕ → (ℕ → ℕ) → ℕ → ℕ
through_points modulation d k =
    get_or (items_of modulation (heard (carrier_point modulation d (k / carrier_bits modulation)))) (k % carrier_bits modulation) 2
