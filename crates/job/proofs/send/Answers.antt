-- `job::send` meets its contract: it is one entry's outcome or the other's. Assumes nothing.
use mathlib.Core.Path.{sym, ◌∙◌}
use Rattle.job.specs.Jobs.{send}
use Rattle.job.proofs.send.Goals as goal

pub returns-then-is_of_frame : goal.returns-then-is_of_frame
unfolding send
returns-then-is_of_frame c =
    let frame = sym c.is_of_frame.ensures ∙ c.if-is_of_frame.true in
    record {
      answer = simp frame c.send.ensures.answer;
      items = simp frame c.send.ensures.items;
    }

pub returns : goal.returns
unfolding send
returns c =
    let frame = sym c.is_of_frame.ensures ∙ c.if-is_of_frame.false in
    record {
      answer = simp frame c.send-2.ensures.answer;
      items = simp frame c.send-2.ensures.items;
    }
