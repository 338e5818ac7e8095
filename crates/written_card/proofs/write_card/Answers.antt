-- `written_card::write_card` meets its contract: each return is a row of its table. Assumes nothing.
use mathlib.Core.Path.{sym, ◌∙◌}
use Prim.Native.Nat.{◌^◌}
use lib.Dec.{ltb}
use borrow.Author.Tests.{ltb-true}
use Rattle.bits.proofs.BoolLaws.{both}
use Rattle.card.specs.Modes.{defined}
use Rattle.written_card.specs.Entries.{write_card}
use Rattle.written_card.specs.Loops.Fields.{put_card}
use Rattle.written_card.proofs.WriteLaws.{writable-fits}
use Rattle.written_card.proofs.write_card.Goals as goal

pub returns-then-not-is_versioned : goal.returns-then-not-is_versioned
unfolding write_card
returns-then-not-is_versioned c =
    let version = sym c.is_versioned.ensures ∙ c.if-not-is_versioned.true in
    record {
      answer = simp version;
      bytes = simp version;
    }

pub returns-then-not-is_writable : goal.returns-then-not-is_writable
unfolding write_card
returns-then-not-is_writable c =
    let version = sym c.is_versioned.ensures ∙ c.if-not-is_versioned.false in
    let mode = sym c.is_writable.ensures ∙ c.if-not-is_writable.true in
    record {
      answer = simp (version, mode);
      bytes = simp (version, mode);
    }

pub invariant_of-put : goal.invariant_of-put
invariant_of-put c =
    let version = sym c.is_versioned.ensures ∙ c.if-not-is_versioned.false in
    let mode = sym c.is_writable.ensures ∙ c.if-not-is_writable.false in
    let d = c.args.c in
    let (is, taps) = both (defined d) (ltb d.taps (2 ^ 11)) mode in
    record { fits = writable-fits d version is (ltb-true d.taps (2 ^ 11) taps) }

pub returns : goal.returns
unfolding write_card put_card
returns c =
    let version = sym c.is_versioned.ensures ∙ c.if-not-is_versioned.false in
    let mode = sym c.is_writable.ensures ∙ c.if-not-is_writable.false in
    record {
      answer = simp (version, mode) c.put.ensures.answer;
      bytes = simp (version, mode) c.put.ensures.bytes;
    }
