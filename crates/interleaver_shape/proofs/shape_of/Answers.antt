-- `interleaver_shape::shape_of` meets its contract: the columns of its tables are those of Table 11. Assumes nothing.
use mathlib.Core.Path.{◌≡◌, subst, sym}
use mathlib.Core.Bool.{false}
use Prim.Native.Nat.{ℕ}
use lib.ListN.{get_or-map}
use Rattle.card.specs.Modes.{Defined}
use Rattle.interleaver_shape.specs.declared.Shape.{Shape}
use Rattle.interleaver_shape.specs.declared.Walk.{Walk}
use Rattle.interleaver_shape.specs.declared.Group.{Group}
use Rattle.interleaver_shape.specs.Shapes.{shape_of}
use Rattle.interleaver_shape.specs.Loops.Bounds.{Sound, Small, Near, Paired}
use Rattle.interleaver_shape.proofs.ShapeLaws.{sound-of, small_of, near_of, paired-of}
use Rattle.interleaver_shape.proofs.shape_of.Goals as goal

served : (kind rate : ℕ) → Defined kind rate → (L : Shape) → L ≡ shape_of kind rate
    → (L ≡ shape_of kind rate) × Sound L × Small L × Near L × (L.continuous ≡ false → Paired L)
served kind rate D L e = (
  e,
  subst Sound (sym e) (sound-of kind rate D),
  subst Small (sym e) (small_of kind rate D),
  subst Near (sym e) (near_of kind rate D),
  subst (λ (S : Shape). S.continuous ≡ false → Paired S) (sym e) (paired-of kind rate D),
)

pub returns : goal.returns
returns c =
    served c.args.coding.kind c.args.coding.rate c.args.coding.defined _
    (rw (
      c.data_rows-rows.ensures,
      ← get_or-map (λ (w : Walk). w.step),
      ← get_or-map (λ (w : Walk). w.offset),
      ← get_or-map (λ (g : Group). g.nibbles),
      ← get_or-map (λ (g : Group). g.lead),
    ))
