-- `record::float_of` meets its contract: there is one NaN, and no other float is made of a NaN's bits. Assumes nothing.
use mathlib.Core.Bool.{Bool, not, true, ◌&&◌, false≢true}
use mathlib.Core.Path.{◌≡◌, sym, subst, ◌∙◌}
use Prim.Native.Nat.{ℕ, zero, suc, ◌/◌, ◌%◌}
use lib.Dec.{T, eqb, leb}
use lib.Ieee.{nan, of_fields, of_bits, nan_bits, top, hid, binary64}
use borrow.Author.Tests.{not-true}
use Rattle.bits.proofs.BoolLaws.{both}
use Rattle.record.proofs.float_of.Goals as goal

-- the fields of a NaN's bits
nan-field : (s : Bool) (x t : ℕ) → (eqb x 2047 && not (eqb t 0)) ≡ true → of_fields binary64 s x t ≡ nan
unfolding of_fields
nan-field s zero t e = absurd (false≢true e)
nan-field s (suc x) t e =
    let h = both (eqb (suc x) 2047) (not (eqb t 0)) e in
    simp (h.0, not-true (eqb t 0) h.1)

nan-of : (bits : ℕ) → nan_bits binary64 bits ≡ true → of_bits binary64 bits ≡ nan
unfolding of_bits nan_bits
nan-of bits e = nan-field (leb (top binary64) bits) (bits % top binary64 / hid binary64) (bits % hid binary64) e

pub float_from_bits-result : goal.float_from_bits-result
float_from_bits-result c = subst (λ (b : Bool). T (not b)) (sym c.if-is_nan.false ∙ c.is_nan.ensures) tt

pub returns-then-is_nan : goal.returns-then-is_nan
unfolding of_bits
returns-then-is_nan c = sym (nan-of _ (sym c.is_nan.ensures ∙ c.if-is_nan.true))
