-- Each interleaver takes each of its carriers once, for every number of carriers, step and interleaver. Assumes nothing.
use mathlib.Core.Path.{◌≡◌, refl}
use Prim.Native.Nat.{ℕ, zero, suc, ◌+◌, ◌*◌}
use native.Mathlib.Nat.{mul-pos}
use native.Mathlib.Omega.{arith}
use borrow.Author.Tests.{eq-eqb, ne_eqb}
use Rattle.bits.specs.Permutations.{Permutes}
use Rattle.bits.proofs.PermutationLaws.{after, permutes-ext}
use Rattle.interleaver.proofs.PassLaws.{pass-permutes}
use Rattle.address_interleaver.specs.Addresses.{circshift, columns, out_addr}
use Rattle.address_interleaver.proofs.RoundLaws.{shift-permutes}

-- without a step, and with one
pub out-still : (n step K p : ℕ) → step ≡ 0 → out_addr n step K p ≡ circshift n K p
unfolding out_addr
out-still n step K p e = rw (eq-eqb step 0 e)

pub out-stepped : (n step K p : ℕ) → (step ≡ 0 → ⊥) → out_addr n step K p ≡ columns n ((K + 1) * step) (circshift n (2 * K * step) p)
unfolding out_addr
out-stepped n step K p h = rw (ne_eqb step 0 h)

pub addresses-permute : (n step K : ℕ) → Permutes n (out_addr n step K)
addresses-permute n zero K = permutes-ext (circshift n K) (out_addr n 0 K) (λ p h. out-still n 0 K p refl) (shift-permutes n K)
addresses-permute n (suc s) K =
    permutes-ext _ (out_addr n (suc s) K) (λ p h. out-stepped n (suc s) K p (λ e. omega arith))
    (after (pass-permutes n ((K + 1) * suc s) (mul-pos {m = K + 1} {n = suc s} (omega arith) (omega arith))) (shift-permutes n (2 * K * suc s)))
