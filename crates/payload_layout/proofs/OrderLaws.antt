-- Each copy of the padded data stands on its carriers once, in each group and in the whole. Assumes nothing.
use Prim.Native.Nat.{ℕ, zero, ◌+◌, ◌*◌, ◌/◌, ◌<◌}
use native.Mathlib.Nat.{mul-pos}
use Rattle.bits.specs.Permutations.{Permutes}
use Rattle.bits.proofs.PermutationLaws.{in_order, rows-permute}
use Rattle.address_interleaver.specs.Addresses.{circshift, out_addr}
use Rattle.address_interleaver.proofs.RoundLaws.{shift-permutes}
use Rattle.address_interleaver.proofs.AddressLaws.{addresses-permute}
use Rattle.payload_layout.specs.declared.Layout.{Layout}
use Rattle.payload_layout.specs.Layouts.{group_carriers, copy_carriers}
use Rattle.payload_layout.specs.Loops.Bounds.{Sound}
use Rattle.payload_layout.specs.Items.{group_order, copy_order}

module _ (L : Layout) (s : Sound L) where
  pub group-pos : zero < group_carriers L
  group-pos = mul-pos s.interleavers-pos s.span_pos

  pub copy-pos : zero < copy_carriers L
  copy-pos = mul-pos s.symbols-pos group-pos

  module _ (k : ℕ) where
    pub group-permutes : Permutes (group_carriers L) (group_order L k)
    unfolding group_order
    group-permutes =
        rows-permute L.interleavers L.span (λ j. j) (λ j. out_addr L.span L.step (k * L.interleavers + j)) s.span_pos (in_order L.interleavers)
        (λ j h. addresses-permute L.span L.step (k * L.interleavers + j))

    pub copy-permutes : Permutes (copy_carriers L) (copy_order L k)
    unfolding copy_order
    copy-permutes =
        rows-permute L.symbols (group_carriers L) (circshift L.symbols (k / L.run)) (λ g. group_order L k) group-pos
        (shift-permutes L.symbols (k / L.run)) (λ g h. group-permutes)
