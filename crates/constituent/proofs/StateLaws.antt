-- Laws of an encoder's states: each is below 8, and a walk asks only for the pairs that it passes. Assumes nothing.
use mathlib.Core.Path.{◌≡◌, refl, ap₂, ◌∙◌}
use Prim.Native.Nat.{ℕ, zero, suc, ◌+◌, ◌*◌, ◌/◌, ◌%◌, ◌<◌}
use native.Mathlib.Nat.{mod-lt, zero-mul, one-mul}
use native.Mathlib.Numerals.{add-one}
use native.Mathlib.Omega.{arith}
use lib.Dec.{lit<}
use lib.Bits.{xor_lt}
use Rattle.bits.specs.Bits.{bit_at}
use Rattle.bits.proofs.RangeLaws.{agree₂, under₂}
use Rattle.constituent.specs.Pairs.{pair_count}
use Rattle.constituent.specs.Encoder.{plus, zero_input_step, next, parity, state_at, start_of, ring_start, parity_at}

-- the step without input is linear
pub linear : (s d : ℕ) → s < 8 → d < 8 → zero_input_step (plus s d) ≡ plus (zero_input_step s) (zero_input_step d)
unfolding plus zero_input_step
linear = agree₂ 8 8 (λ s d. zero_input_step (plus s d)) (λ s d. plus (zero_input_step s) (zero_input_step d)) tt

-- ---- every state is below 8

plus-lt : (a b : ℕ) → a < 8 → b < 8 → plus a b < 8
unfolding plus
plus-lt a b ha hb = xor_lt 3 a b ha hb

pub free-lt : (s : ℕ) → zero_input_step s < 8
unfolding zero_input_step
free-lt s = omega arith

-- a bit times three bits of the taps
pub gated-lt : (v b : ℕ) → v < 2 → v * (b % 8) < 8
gated-lt zero b h = simp zero-mul (omega arith)
gated-lt (suc zero) b h = simp one-mul (mod-lt b (lit< tt))
gated-lt (suc (suc v)) b h = absurd (omega arith)

next-lt : (taps s u : ℕ) → next taps s u < 8
unfolding next
next-lt taps s u =
    plus-lt _ _ (free-lt s) (plus-lt _ _ (gated-lt (bit_at 1 u) (taps / 256) (mod-lt _ (lit< tt))) (gated-lt (bit_at 0 u) (taps / 32) (mod-lt _ (lit< tt))))

pub start-lt : (kind s : ℕ) → kind < 5 → s < 8 → start_of kind s < 8
unfolding start_of plus
start-lt = under₂ 5 8 8 start_of tt

pub state-lt : (taps : ℕ) (p : ℕ → ℕ) (s : ℕ) → s < 8 → (t : ℕ) → state_at taps p s t < 8
unfolding state_at
state-lt taps p s h zero = h
state-lt taps p s h (suc t) = next-lt taps (state_at taps p s t) (p t)

pub ring-lt : (taps : ℕ) (p : ℕ → ℕ) (kind : ℕ) → kind < 5 → ring_start kind taps p < 8
unfolding ring_start
ring-lt taps p kind h = start-lt kind (state_at taps p 0 (pair_count kind)) h (state-lt taps p 0 (lit< tt) (pair_count kind))

-- ---- a walk asks only for the pairs that it passes

pub state-ext : (taps : ℕ) (p q : ℕ → ℕ) (s t : ℕ) → ((k : ℕ) → k < t → p k ≡ q k) → state_at taps p s t ≡ state_at taps q s t
unfolding state_at
state-ext taps p q s zero h = refl
state-ext taps p q s (suc t) h = rw (state-ext taps p q s t (λ k l. h k (omega arith)), h t (omega arith))

pub parity-ext : (kind taps : ℕ) (p q : ℕ → ℕ) → ((k : ℕ) → k < pair_count kind → p k ≡ q k) → (t : ℕ) → t < pair_count kind
    → parity_at kind taps p t ≡ parity_at kind taps q t
unfolding parity_at ring_start
parity-ext kind taps p q h t l =
    rw (state-ext taps p q 0 (pair_count kind) h, state-ext taps p q (start_of kind (state_at taps q 0 (pair_count kind))) t (λ k b. h k (omega arith)), h t l)

pub parity-lt : (kind taps : ℕ) (p : ℕ → ℕ) (t : ℕ) → parity_at kind taps p t < 2
unfolding parity_at parity
parity-lt kind taps p t = mod-lt _ (lit< tt)

-- ---- a loop over pairs

module _ (taps : ℕ) (p : ℕ → ℕ) (s : ℕ) where
  -- no pair yet, and one more
  pub state-none : s ≡ state_at taps p s 0
  unfolding state_at
  state-none = refl

  pub state-next : (t a u r : ℕ) → a ≡ state_at taps p s t → u ≡ p t → r ≡ next taps a u → r ≡ state_at taps p s (t + 1)
  unfolding state_at
  state-next t a u r ha hu hr = hr ∙ rw add-one (ap₂ (next taps) ha hu)

  pub state-small : (t a : ℕ) → s < 8 → a ≡ state_at taps p s t → a < 8
  state-small t a h ha = rw ha (state-lt taps p s h t)
