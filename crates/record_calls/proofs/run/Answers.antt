-- `record_calls::run` meets its contract. Assumes nothing.
use Rattle.std.proofs.Common.{◌≡◌, ◌∙◌, rules, arith}
use Rattle.std.specs.Float.Ieee.{of_bits}
use Rattle.std.specs.Float.{binary64}
use borrow.Author.Tests.{eq-eqb, ne_eqb}
use Rattle.refusal.specs.Report.{answer}
use Rattle.card.specs.Entries.{read_fields}
use Rattle.constellation.specs.Entries.{map_outcome}
use Rattle.record.specs.Expected.{byte_at, holds_bytes, holds_words, holds_floats, most_bytes, most_words}
use Rattle.record_calls.specs.Calls.{bytes_outcome, untouched, given}
use Rattle.record_calls.proofs.CallLaws.{judged_by}
use Rattle.record_calls.proofs.run.Goals as goal

pub returns-in-4 : goal.returns-in-4
unfolding given holds_words
returns-in-4 c =
    let a = c.args in
    let call = c.given_by.ensures.2 in
    let met = call.met in
    let start : call.shown.now ≡ untouched most_words a.r 11936128518282651045 = rw (c.room_of-room.ensures.0, c.untouched-out.ensures.0) at call.shows in
    let report : answer c.given_by.ensures.0 ≡ (read_fields a.card.now call.shown.now).report = search rules in
    let made : call.left.now ≡ (read_fields a.card.now call.shown.now).out = search rules in
    simp (eq-eqb _ _ c.in-4.is)
    (judged_by a.r (read_fields a.card.now) (λ out. holds_words out a.expected.now) _ _ _ _ _ _ start report made call.leaves c.given_by.ensures.3)

pub returns-in-6 : goal.returns-in-6
unfolding given holds_floats
returns-in-6 c =
    let a = c.args in
    let call = c.given_by-in-6.ensures.2 in
    let met = call.met in
    let modulation : c.from-modulation.result ≡ byte_at a.card.now 0 = c.from-modulation.ensures ∙ c.byte_at.ensures in
    let start : call.shown.now ≡ untouched most_words a.r (of_bits binary64 11936128518282651045) =
    rw (c.room_of-room.ensures.0, c.untouched-out-in-6.ensures.0) at call.shows in
    let report : answer c.given_by-in-6.ensures.0 ≡ (map_outcome c.from-modulation.result a.input.now call.shown.now).report = search rules in
    let made : call.left.now ≡ (map_outcome c.from-modulation.result a.input.now call.shown.now).out = search rules in
    simp (ne_eqb a.r.call 4 (λ e. omega arith), eq-eqb _ _ c.in-6.is)
    (rw modulation at (judged_by a.r (map_outcome c.from-modulation.result a.input.now) (λ out. holds_floats out a.expected.now) _ _ _ _ _ _ start report made call.leaves c.given_by-in-6.ensures.3))

pub returns-in_default : goal.returns-in_default
unfolding given holds_bytes
returns-in_default c =
    let a = c.args in
    let call = c.given_by-in_default.ensures.2 in
    let met = call.met in
    let start : call.shown.now ≡ untouched most_bytes a.r 165 = rw (c.room_of-room-in_default.ensures.0, c.untouched-out-in_default.ensures.0) at call.shows in
    let report : answer c.given_by-in_default.ensures.0 ≡ (bytes_outcome a.r.call a.card.now a.input.now call.shown.now).report = search rules in
    let made : call.left.now ≡ (bytes_outcome a.r.call a.card.now a.input.now call.shown.now).out = search rules in
    simp (ne_eqb a.r.call 4 (λ e. omega arith), ne_eqb a.r.call 6 (λ e. omega arith))
    (judged_by a.r (bytes_outcome a.r.call a.card.now a.input.now) (λ out. holds_bytes out a.expected.now) _ _ _ _ _ _ start report made call.leaves c.given_by-in_default.ensures.3)
