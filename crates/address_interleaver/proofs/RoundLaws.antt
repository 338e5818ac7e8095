-- Laws of numbers in the round: one more, and what is moved up. Assumes nothing.
use mathlib.Core.Path.{◌≡◌, sym, ap, ◌∙◌}
use Prim.Native.Nat.{ℕ, suc, ◌+◌, ◌-◌, ◌*◌, ◌/◌, ◌%◌, ◌<◌}
use native.Mathlib.Nat.{zero-add, suc-mul, mod-lt, mod-eq_of_lt, mod-mod, mod-add-mod, zero-mod, add-mod_right, add-mul-mod_self_right, div-add-mod'}
use native.Mathlib.Omega.{arith}
use Rattle.bits.specs.Permutations.{Permutes}
use Rattle.bits.proofs.PermutationLaws.{moves}
use Rattle.address_interleaver.specs.Addresses.{circshift}

-- one more
pub round-next : (n x : ℕ) → (x % n + 1) % n ≡ (x + 1) % n
round-next n x = mod-add-mod x n 1

-- moved up by any number, each number below n stands at one place
pub shift-permutes : (n by : ℕ) → Permutes n (circshift n by)
shift-permutes n by = moves n (n - by % n)

-- and moved on by as many it is back
pub shift_back : (n by p : ℕ) → p < n → (circshift n by p + by) % n ≡ p
shift_back n by p h =
    mod-add-mod (p + (n - by % n)) n by ∙ ap (λ (k : ℕ). k % n) whole ∙ add-mul-mod_self_right p (suc (by / n)) n ∙ mod-eq_of_lt h
  where
    whole : p + (n - by % n) + by ≡ p + suc (by / n) * n
    whole =
        let l : by % n < n = mod-lt by (omega arith) in
        omega (arith, div-add-mod' by n, suc-mul (by / n) n)

-- a whole round more changes nothing, and no place moves nothing
pub shift-mod : (n by p : ℕ) → circshift n (by % n) p ≡ circshift n by p
shift-mod n by p = ap (λ (k : ℕ). (p + (n - k)) % n) (mod-mod by n)

pub unshifted : (n p : ℕ) → p < n → circshift n 0 p ≡ p
unshifted n p h =
    ap (λ (k : ℕ). (p + (n - k)) % n) (zero-mod n) ∙ ap (λ (k : ℕ). (p + k) % n) (let z : n - 0 ≡ n = omega arith in z) ∙ add-mod_right p n ∙ mod-eq_of_lt h

-- what stands at the next place, and at the first
pub shift-next : (n by p g : ℕ) → g ≡ circshift n by p → (g + 1) % n ≡ circshift n by (p + 1)
shift-next n by p g e =
    let z : p + (n - by % n) + 1 ≡ p + 1 + (n - by % n) = omega arith in
    ap (λ (k : ℕ). (k + 1) % n) e ∙ round-next n (p + (n - by % n)) ∙ ap (λ (k : ℕ). k % n) z

pub shift-first : (n by : ℕ) → (n - by % n) % n ≡ circshift n by 0
shift-first n by = ap (λ (k : ℕ). k % n) (sym (zero-add (n - by % n)))
