-- `constituent::Encoder::pack_parity` meets its contract. The invariant: a and b are eight times the states of pass two after i bytes, and the
-- parity bits of those bytes are written. Assumes nothing.
use mathlib.Core.Path.{◌≡◌, refl, ap, ◌∙◌}
use Prim.Native.Nat.{ℕ, ◌+◌, ◌*◌, ◌≤◌}
use native.Mathlib.Omega.{arith}
use Rattle.bits.specs.Bits.{bit_of}
use Rattle.bits.proofs.ListLaws.{written_none, written_next}
use Rattle.constituent.specs.Encoder.{state_at, ring_start, parity_at}
use Rattle.constituent.specs.Pairs.{pair_at}
use Rattle.constituent.specs.Loops.Bytes.{four_from}
use Rattle.constituent.proofs.StateLaws.{ring-lt, parity-lt}
use Rattle.constituent.proofs.ByteLaws.{state-turn, parity-turn}
use Rattle.constituent.proofs.PassLaws.{four-by, multiplexed-byte}
use Rattle.constituent.proofs.Encoder.pack_parity.Goals as goal
use Rattle.constituent.proofs.Encoder.pack_parity.Goals.{After-given-p, After-given-q}

few : (kind taps : ℕ) (p : ℕ → ℕ) (i r : ℕ) → r ≡ four_from (parity_at kind taps p) i → r ≤ 85
few kind taps p i r e =
    omega (arith, parity-lt kind taps p (4 * i), parity-lt kind taps p (4 * i + 1), parity-lt kind taps p (4 * i + 2), parity-lt kind taps p (4 * i + 3))

-- the parity bits that a turn gives
gives-one : (c : After-given-p) → c.given-p.result ≡ four_from (parity_at c.args.kind c.args.self.now.taps (pair_at (bit_of c.args.bytes.now))) c.loop-i.i
gives-one c =
    parity-turn _ c.args.bytes.now _ (ring-lt _ _ _ c.requires.blocks.defined) _ _ _ _ c.loop-i.invariant.2 refl c.given-p.ensures ∙ four-by _ _ c.args.bytes.now _

gives-two : (c : After-given-q) → c.given-q.result ≡ four_from (parity_at c.args.kind c.args.self.now.taps (pair_at (bit_of c.args.second.now))) c.loop-i.i
gives-two c =
    parity-turn _ c.args.second.now _ (ring-lt _ _ _ c.requires.blocks.defined) _ _ _ _ c.loop-i.invariant.3 refl c.given-q.ensures
    ∙ four-by _ _ c.args.second.now _

pub loop-i-init : goal.loop-i-init
unfolding state_at
loop-i-init c =
    let a = c.args in
    let taps = a.self.now.taps in
    let first : c.from-a.result ≡ ring_start a.kind taps (pair_at (bit_of a.bytes.now)) = c.from-a.ensures ∙ c.requires.started.0.one in
    let second : c.from-b.result ≡ ring_start a.kind taps (pair_at (bit_of a.second.now)) = c.from-b.ensures ∙ c.requires.started.0.two in (
      omega (arith, ring-lt taps (pair_at (bit_of a.bytes.now)) a.kind c.requires.blocks.defined),
      omega (arith, ring-lt taps (pair_at (bit_of a.second.now)) a.kind c.requires.blocks.defined),
      ap (λ (m : ℕ). m * 8) first,
      ap (λ (m : ℕ). m * 8) second,
      written_none _ _,
    )

pub overflow_mul-out : goal.overflow_mul-out
overflow_mul-out c = omega (arith, few _ _ _ _ _ (gives-one (goal.at.overflow_mul-out c).After-given-p))

pub overflow_add-out : goal.overflow_add-out
overflow_add-out c =
    omega (arith, few _ _ _ _ _ (gives-one (goal.at.overflow_add-out c).After-given-p), few _ _ _ _ _ (gives-two (goal.at.overflow_add-out c).After-given-q))

pub loop-i-preserved : goal.loop-i-preserved
loop-i-preserved c =
    let l = c.loop-i in
    let at = goal.at.loop-i-preserved c in (
      c.moved-a.ensures.small,
      c.moved-b.ensures.small,
      state-turn _ c.args.bytes.now _ (ring-lt _ _ _ c.requires.blocks.defined) _ _ _ _ l.invariant.2 refl c.moved-a.ensures.after,
      state-turn _ c.args.second.now _ (ring-lt _ _ _ c.requires.blocks.defined) _ _ _ _ l.invariant.3 refl c.moved-b.ensures.after,
      written_next _ _ _ _ _ l.invariant.4 (omega arith) (multiplexed-byte _ _ _ _ l.i _ _ (gives-one at.After-given-p) (gives-two at.After-given-q)),
    )
