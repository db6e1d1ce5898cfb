use Rattle.std.proofs.Common.{◌≡◌, ◌≤◌, length, arith, string_bytes, ap, ◌∙◌}
use Rattle.line_intake.specs.Answers.{answer_line}
use Rattle.line_intake.proofs.AnswerLemmas.{answers_end, answers_next}
use Rattle.line_intake.proofs.answer.answers.Goals as goal

pub loop-i-preserved : goal.loop-i-preserved
loop-i-preserved c =
    let line : c.as_str.result.now ≡ answer_line c.at.result.now (length c.at-in-loop-i.result.now) c.at-in-loop-i-2.result.now =
    c.as_str.ensures.value ∙ c.in_ok-line.ensures ∙ ap (λ n. answer_line c.at.result.now n c.at-in-loop-i-2.result.now) c.len.ensures in
    answers_next (string_bytes c.loop-i.text) (string_bytes c.push_str.new.self) c.as_str.result.now _ c.args.tells.now c.args.lists.now c.args.each.now c.loop-i.i c.at.result.now c.at-in-loop-i.result.now c.at-in-loop-i-2.result.now
    c.at.ensures c.at-in-loop-i.ensures c.at-in-loop-i-2.ensures line c.in_ok-push_str.ensures.bytes c.loop-i.invariant

pub returns : goal.returns
returns c =
    let high : length c.args.tells.now ≤ c.loop-i.i = omega (arith, c.len-i-end.ensures) in
    c.from_string.ensures ∙ answers_end (string_bytes c.loop-i.text) _ c.args.tells.now c.args.lists.now c.args.each.now c.loop-i.i high c.loop-i.invariant
