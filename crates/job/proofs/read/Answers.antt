-- `job::read` meets its contract: it is one entry's outcome or the other's. Assumes nothing.
use mathlib.Core.Path.{sym, ◌∙◌}
use Rattle.job.specs.Jobs.{read}
use Rattle.job.proofs.read.Goals as goal

pub returns-then-is_of_frame : goal.returns-then-is_of_frame
unfolding read
returns-then-is_of_frame c =
    let frame = sym c.is_of_frame.ensures ∙ c.if-is_of_frame.true in
    record {
      answer = simp frame c.read.ensures.answer;
      bytes = simp frame c.read.ensures.word;
    }

pub returns : goal.returns
unfolding read
returns c =
    let frame = sym c.is_of_frame.ensures ∙ c.if-is_of_frame.false in
    record {
      answer = simp frame c.read-2.ensures.answer;
      bytes = simp frame c.read-2.ensures.bytes;
    }
