-- The ring closes: pass two ends where it began, for every kind, taps and data. Ring is paper 01's word for a tail-biting encoder.
-- Assumes nothing.
use mathlib.Core.Path.{◌≡◌, refl, sym, ap, ap₂, ◌∙◌}
use Prim.Native.Nat.{ℕ, zero, suc, ◌<◌}
use native.Mathlib.Nat.{zero-mul}
use native.Mathlib.Omega.{arith}
use lib.Dec.{lit<}
use lib.Bits.{bit_xor, xor_zero_l, xor_zero_r}
use Rattle.bits.proofs.RangeLaws.{agree₂}
use Rattle.constituent.specs.Pairs.{pair_count}
use Rattle.constituent.specs.Encoder.{plus, zero_input_step, next, state_at, start_of, ring_start}
use Rattle.constituent.proofs.StateLaws.{free-lt, start-lt, state-lt}
use Rattle.constituent.proofs.LinearLaws.{state-linear}

-- ---- without input

-- n steps without input
unfoldable pub steps : ℕ → ℕ → ℕ
steps zero d = d
steps (suc n) d = zero_input_step (steps n d)

pub steps-lt : (n d : ℕ) → d < 8 → steps n d < 8
unfolding steps
steps-lt zero d h = h
steps-lt (suc n) d h = free-lt (steps n d)

next-idle : (taps s : ℕ) → next taps s 0 ≡ zero_input_step s
unfolding next plus
next-idle taps s = simp zero-mul (xor_zero_r (zero_input_step s))

-- pairs of zeros are no input
pub idle : (taps : ℕ) (p : ℕ → ℕ) (s n : ℕ) → ((k : ℕ) → k < n → p k ≡ 0) → state_at taps p s n ≡ steps n s
unfolding state_at steps
idle taps p s zero h = refl
idle taps p s (suc n) h =
    ap₂ (next taps) (idle taps p s n (λ k l. h k (omega arith))) (h n (omega arith)) ∙ next-idle taps (steps n s)

-- two walks over the same pairs differ as without input
pub state-plus : (taps : ℕ) (p : ℕ → ℕ) (s d : ℕ) → s < 8 → d < 8 → (t : ℕ) → state_at taps p (bit_xor s d) t ≡ bit_xor (state_at taps p s t) (steps t d)
state-plus taps p s d hs hd t =
    state-linear taps p (λ j. 0) p (λ j. sym (xor_zero_r (p j))) s d hs hd t ∙ ap (bit_xor (state_at taps p s t)) (idle taps (λ j. 0) d t (λ k l. refl))

-- ---- the ring

-- M is right for the kind: the state sn and L steps without input from SN times M sum to SN times M, computed at every kind and state
matrix-closes : (kind sn : ℕ) → kind < 5 → sn < 8 → plus sn (steps (pair_count kind) (start_of kind sn)) ≡ start_of kind sn
unfolding plus zero_input_step steps start_of
matrix-closes = agree₂ 5 8 (λ kind sn. plus sn (steps (pair_count kind) (start_of kind sn))) start_of tt

-- THE RING: pass two ends where it began
pub ring : (kind taps : ℕ) (p : ℕ → ℕ) → kind < 5 → state_at taps p (ring_start kind taps p) (pair_count kind) ≡ ring_start kind taps p
unfolding ring_start plus
ring kind taps p hk =
    let l : ℕ = pair_count kind in
    let sn : ℕ = state_at taps p 0 l in
    let hn : sn < 8 = state-lt taps p 0 (lit< tt) l in
    ap (λ (y : ℕ). state_at taps p y l) (sym (xor_zero_l (start_of kind sn)))
    ∙ state-plus taps p 0 (start_of kind sn) (lit< tt) (start-lt kind sn hk hn) l
    ∙ matrix-closes kind sn hk hn
