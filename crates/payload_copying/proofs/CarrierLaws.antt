-- Laws of carriers that are copied, bit by bit and one after another. Assumes nothing.
use mathlib.Core.Path.{◌≡◌, refl, sym, ap, ap₂, ◌∙◌}
use mathlib.Core.List.{List}
use Prim.Native.Nat.{ℕ, ◌+◌, ◌-◌, ◌*◌, ◌/◌, ◌%◌, ◌<◌, ◌≤◌}
use native.Mathlib.Omega.{arith}
use lib.Arith.{digits_div, digits_mod}
use lib.ListN.{length, get_or, set, length-set}
use lib.Seq.{get_or-set_same, get_or-set_other}
use Rattle.bits.specs.Lists.{written}
use Rattle.bits.proofs.NumberLaws.{lt-cases, row_next}
use Rattle.bits.proofs.ListLaws.{written_of, written_all, get_or-written, get_or-kept}
use Rattle.payload_copying.specs.Loops.Slots.{Copied, taken}

module _ (src : List ℕ) (from to : ℕ) (out : List ℕ) where
  pub copied_none : Copied 0 src from to out out
  copied_none =
      record { long = refl; put = λ e h. absurd (omega arith); under = λ i h. refl; over = λ i h. refl }

  pub copied_next : (n : ℕ) (now : List ℕ) → Copied n src from to out now → to + n < length out
      → Copied (n + 1) src from to out (set now (to + n) (get_or src (from + n) 0))
  copied_next n now c h =
      record {
        long = length-set now (to + n) _ ∙ c.long;
        put = λ e l. lt-cases e n
            (λ k. get_or-set_other now (to + n) (to + e) _ 0 (λ z. omega arith) ∙ c.put e k)
            (λ k. let same : e ≡ n = omega arith in rw same (get_or-set_same now (to + n) _ 0 (omega (arith, c.long))));
        under = λ i l. get_or-set_other now (to + n) i _ 0 (λ z. omega arith) ∙ c.under i l;
        over = λ i l. get_or-set_other now (to + n) i _ 0 (λ z. omega arith) ∙ c.over i (omega arith);
      }

-- a turn of `gather_by`
pub gather-next : (bits p address : ℕ) (order src out now after : List ℕ) → address ≡ get_or order p 0
    → now ≡ written (p * bits) (taken bits order src) out → length now ≡ length out → p * bits + bits ≤ length out
    → Copied bits src (address * bits) (p * bits) now after → after ≡ written ((p + 1) * bits) (taken bits order src) out
unfolding taken
gather-next bits p address order src out now after a e l h c =
    written_all _ _ _ _ _ (written_of (p * bits + bits) (taken bits order src) 0 out after h (c.long ∙ l) below above) (sym (row_next p bits))
  where
    below : (i : ℕ) → i < p * bits + bits → get_or after i 0 ≡ taken bits order src i
    below i k =
        lt-cases i (p * bits)
        (λ b. c.under i b ∙ ap (λ (s : List ℕ). get_or s i 0) e ∙ get_or-written (p * bits) _ out i 0 b)
        (λ b.
        let z : i ≡ p * bits + (i - p * bits) = omega arith in
        let r : i - p * bits < bits = omega arith in
        let d : i / bits ≡ p = ap (λ (k : ℕ). k / bits) z ∙ digits_div p r in
        let m : i % bits ≡ i - p * bits = ap (λ (k : ℕ). k % bits) z ∙ digits_mod p r in
        ap (λ (k : ℕ). get_or after k 0) z ∙ c.put (i - p * bits) r
        ∙ ap₂ (λ (q e : ℕ). get_or src (q * bits + e) 0) (a ∙ ap (λ (k : ℕ). get_or order k 0) (sym d)) (sym m))

    above : (i : ℕ) → p * bits + bits ≤ i → get_or after i 0 ≡ get_or out i 0
    above i k = c.over i k ∙ ap (λ (s : List ℕ). get_or s i 0) e ∙ get_or-kept (p * bits) _ out i 0 (omega arith)
