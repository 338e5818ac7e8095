-- `constituent::byte_word` meets its contract. The invariant: s is the state and `parities` has the parity bits after j pairs. Assumes nothing.
use mathlib.Core.Path.{◌≡◌, refl, ap, ap₂, ◌∙◌}
use Prim.Native.Nat.{ℕ, ◌+◌, ◌*◌}
use native.Mathlib.Numerals.{add-one}
use native.Mathlib.Omega.{arith}
use lib.Dec.{lit<}
use Rattle.constituent.specs.Encoder.{parity, state_at}
use Rattle.constituent.specs.Loops.Bytes.{parities, byte_word, pair_in}
use Rattle.constituent.proofs.LinearLaws.{few-parities}
use Rattle.constituent.proofs.StateLaws.{state-none, state-next, state-small}
use Rattle.constituent.proofs.byte_word.Goals as goal

pub loop-j-init : goal.loop-j-init
unfolding parities
loop-j-init c = (c.requires, lit< tt, state-none _ _ _, refl)

pub loop-j-preserved : goal.loop-j-preserved
unfolding parities
loop-j-preserved c =
    let a = c.args in
    let (s, p, es, ep) = c.loop-j.invariant in
    let state = state-next a.taps (pair_in a.byte) a.state c.loop-j.j _ _ _ es c.pair_in-u.ensures c.step-s.ensures in
    let bits : c.loop-j.parities * 4 + c.from.result ≡ parities a.taps (pair_in a.byte) a.state (c.loop-j.j + 1) =
    rw add-one (ap₂ (λ (m n : ℕ). m * 4 + n) ep (c.from.ensures ∙ c.parity_bit.ensures ∙ ap₂ (parity a.taps) es c.pair_in-u.ensures)) in
    (state-small _ _ _ _ _ c.requires state, rw bits (few-parities a.taps (pair_in a.byte) a.state (c.loop-j.j + 1) (omega arith)), state, bits)

pub returns : goal.returns
unfolding byte_word
returns c =
    let q : c.loop-j.j ≡ 4 = omega arith in
    ap₂ (λ (m n : ℕ). m * 256 + n * 8) (c.loop-j.invariant.3 ∙ ap (parities c.args.taps (pair_in c.args.byte) c.args.state) q)
    (c.from-2.ensures ∙ c.loop-j.invariant.2 ∙ ap (state_at c.args.taps (pair_in c.args.byte) c.args.state) q)
