-- The channel interleaver's laws, for callers: at every defined kind and rate the source bits of the coded bits are a permutation, and
-- `source` and `coded_at` undo each other. Assumes nothing.
use mathlib.Core.Path.{◌≡◌, sym, ap, ◌∙◌}
use mathlib.Core.List.{List}
use Prim.Native.Nat.{ℕ, ◌<◌}
use lib.ListN.{length, get_or}
use Rattle.bits.specs.Lists.{tabulate}
use Rattle.bits.specs.Permutations.{Permutes}
use Rattle.bits.proofs.ListLaws.{get_or-tabulate, tabulate-of}
use Rattle.bits.proofs.PermutationLaws.{inverse, inverse-after, after-inverse, inverse-lt}
use Rattle.card.specs.Modes.{Defined}
use Rattle.interleaver_shape.specs.Shapes.{shape_of, coded_bits}
use Rattle.interleaver.specs.Source.{source, coded_at}
use Rattle.interleaver.specs.Loops.RowOrder.{row_place, row_source}
use Rattle.interleaver_shape.proofs.ShapeLaws.{sound-of}
use Rattle.interleaver.proofs.SourceLaws.{source-permutes}
use Rattle.interleaver.proofs.RowLaws.{source-at-place, source-at-lt, place-permutes}

module _ (kind rate : ℕ) (D : Defined kind rate) where
  -- the interleaver is a permutation of the coded bits
  pub permutes : Permutes (coded_bits kind rate) (source kind rate)
  unfolding coded_bits source
  permutes = source-permutes (shape_of kind rate) (sound-of kind rate D)

  pub source-lt : (i : ℕ) → i < coded_bits kind rate → source kind rate i < coded_bits kind rate
  source-lt = permutes.below

  pub coded-lt : (k : ℕ) → k < coded_bits kind rate → coded_at kind rate k < coded_bits kind rate
  unfolding coded_at
  coded-lt = inverse-lt (coded_bits kind rate) (source kind rate) permutes

  pub source-coded : (k : ℕ) → k < coded_bits kind rate → source kind rate (coded_at kind rate k) ≡ k
  unfolding coded_at
  source-coded = after-inverse (coded_bits kind rate) (source kind rate) permutes

  pub coded-source : (i : ℕ) → i < coded_bits kind rate → coded_at kind rate (source kind rate i) ≡ i
  unfolding coded_at
  coded-source = inverse-after (coded_bits kind rate) (source kind rate) permutes

  -- the places of the coded bits in the list of rows are a permutation, and each holds its source bit
  pub row-permutes : Permutes (coded_bits kind rate) (row_place kind rate)
  unfolding coded_bits row_place
  row-permutes = place-permutes (shape_of kind rate) (sound-of kind rate D)

  pub row-place-lt : (i : ℕ) → i < coded_bits kind rate → row_place kind rate i < coded_bits kind rate
  row-place-lt = row-permutes.below

  pub row-source-lt : (j : ℕ) → j < coded_bits kind rate → row_source kind rate j < coded_bits kind rate
  unfolding coded_bits row_source
  row-source-lt = source-at-lt (shape_of kind rate) (sound-of kind rate D)

  pub row-source-place : (i : ℕ) → i < coded_bits kind rate → row_source kind rate (row_place kind rate i) ≡ source kind rate i
  unfolding coded_bits source row_place row_source
  row-source-place = source-at-place (shape_of kind rate) (sound-of kind rate D)

  -- the coded bit at place j of the rows
  pub row-inverse : (j : ℕ) → j < coded_bits kind rate → inverse (coded_bits kind rate) (row_place kind rate) j ≡ coded_at kind rate (row_source kind rate j)
  row-inverse j h =
      let n = coded_bits kind rate in
      let i = inverse n (row_place kind rate) j in
      let l = inverse-lt n (row_place kind rate) row-permutes j h in
      sym (coded-source i l)
      ∙ ap (coded_at kind rate) (sym (row-source-place i l) ∙ ap (row_source kind rate) (after-inverse n (row_place kind rate) row-permutes j h))

  -- deinterleaving what was interleaved gives the bits back, and the other way round
  pub deinterleave-interleave : (d : ℕ → ℕ) (k : ℕ) → k < coded_bits kind rate → d (source kind rate (coded_at kind rate k)) ≡ d k
  deinterleave-interleave d k h = ap d (source-coded k h)

  pub interleave-deinterleave : (d : ℕ → ℕ) (i : ℕ) → i < coded_bits kind rate → d (coded_at kind rate (source kind rate i)) ≡ d i
  interleave-deinterleave d i h = ap d (coded-source i h)

  -- what is read back shuffles into what was read, and it is the only list that does
  pub read_back : (ys : List ℕ) → length ys ≡ coded_bits kind rate
      → tabulate (coded_bits kind rate) (λ i. get_or (tabulate (coded_bits kind rate) (λ k. get_or ys (coded_at kind rate k) 0)) (source kind rate i) 0) ≡ ys
  read_back ys l =
      sym (tabulate-of (coded_bits kind rate) _ 0 ys l (λ i h.
      sym (get_or-tabulate (coded_bits kind rate) (λ k. get_or ys (coded_at kind rate k) 0) (source kind rate i) 0 (source-lt i h) ∙ interleave-deinterleave (λ k. get_or ys k 0) i h)))

  pub only-back : (xs ys : List ℕ) → length xs ≡ coded_bits kind rate → tabulate (coded_bits kind rate) (λ i. get_or xs (source kind rate i) 0) ≡ ys
      → xs ≡ tabulate (coded_bits kind rate) (λ k. get_or ys (coded_at kind rate k) 0)
  only-back xs ys l e =
      tabulate-of (coded_bits kind rate) (λ k. get_or ys (coded_at kind rate k) 0) 0 xs l (λ k h.
      sym
      (ap (λ (zs : List ℕ). get_or zs (coded_at kind rate k) 0) (sym e)
      ∙ get_or-tabulate (coded_bits kind rate) (λ i. get_or xs (source kind rate i) 0) (coded_at kind rate k) 0 (coded-lt k h) ∙ deinterleave-interleave (λ i. get_or xs i 0) k h))
