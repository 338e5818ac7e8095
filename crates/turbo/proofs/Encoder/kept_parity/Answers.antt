-- `turbo::Encoder::kept_parity` meets its contract. Assumes nothing.
use mathlib.Core.Path.{◌≡◌, sym, ap, ◌∙◌}
use Prim.Native.Nat.{ℕ, ◌≤◌}
use native.Mathlib.Omega.{arith}
use lib.ListN.{length, length-replicate}
use borrow.Author.Tests.{eqb-true}
use Rattle.bits.proofs.ListLaws.{length-written}
use Rattle.card.specs.Modes.{block_bytes}
use Rattle.constituent.proofs.PairLaws.{few-pairs}
use Rattle.turbo.specs.Puncture.{pattern}
use Rattle.turbo.proofs.PunctureLaws.{all-count, not-all}
use Rattle.turbo.proofs.ParityLaws.{blocks, kept-all-bytes, kept-some-bytes}
use Rattle.turbo.proofs.Encoder.kept_parity.Goals as goal
use Rattle.turbo.proofs.Encoder.kept_parity.Goals.{Then-keeps_all}

-- on the first branch the pattern has only ones
ones : (c : Then-keeps_all) → pattern c.args.self.rate ≡ 65535
ones c = eqb-true (pattern c.args.self.rate) 65535 (sym c.keeps_all.ensures ∙ c.if-keeps_all.true)

pub parity_bytes-requires : goal.parity_bytes-requires
parity_bytes-requires c =
    let n = all-count c.args.self.kind c.args.self.rate (ones (goal.at.parity_bytes-requires c).Then-keeps_all) in
    (blocks _ _ _ c.requires.0, omega (arith, n, c.requires.1))

pub returns-then-keeps_all : goal.returns-then-keeps_all
returns-then-keeps_all c =
    kept-all-bytes c.args.self.kind c.args.self.rate c.args.self.taps _ _ c.requires.0 c.args.out.now _ (ones (goal.at.returns-then-keeps_all c).Then-keeps_all) c.parity_bytes.ensures

pub parity_bytes-requires-2 : goal.parity_bytes-requires-2
parity_bytes-requires-2 c =
    (blocks _ _ _ c.requires.0, omega (arith, few-pairs c.args.self.kind c.requires.0.defined))

pub keep-requires : goal.keep-requires
keep-requires c =
    let p = c.parity_bytes-2.ensures in
    let n : block_bytes c.args.self.kind ≤ 520 = omega (arith, few-pairs c.args.self.kind c.requires.0.defined) in
    let l = ap length p ∙ length-written (block_bytes c.args.self.kind) _ _ (rw (length-replicate {A = ℕ} 520 0) n) ∙ length-replicate {A = ℕ} 520 0 in
    record {
      rate-is = not-all c.args.self.rate c.args.self.rate_in_range (sym c.keeps_all.ensures ∙ c.if-keeps_all.false);
      whole = omega (arith, l, n);
      short = omega (arith, l);
      room = c.requires.1;
    }

pub returns : goal.returns
returns c =
    kept-some-bytes c.args.self.kind c.args.self.rate c.args.self.taps _ _ c.requires.0 _ _ c.args.out.now _ c.parity_bytes-2.ensures c.keep.ensures
