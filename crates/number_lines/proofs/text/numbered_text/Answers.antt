use Rattle.std.proofs.Common.{◌≡◌, ◌≤◌, length, arith, string_bytes, ◌∙◌}
use Rattle.number_lines.specs.Texts.{line_text}
use Rattle.number_lines.proofs.TextLemmas.{numbered_end, numbered_next}
use Rattle.number_lines.proofs.text.numbered_text.Goals as goal

pub loop-i-preserved : goal.loop-i-preserved
loop-i-preserved c =
    let line : c.as_str.result.now ≡ line_text c.at.result.now.fault c.at-in-loop-i.result.now = c.as_str.ensures.value ∙ c.in_ok-line.ensures in
    numbered_next (string_bytes c.loop-i.text) (string_bytes c.push_str.new.self) c.as_str.result.now _ c.args.tells.now c.args.answers.now c.loop-i.i c.at.result.now c.at-in-loop-i.result.now
    c.at.ensures c.at-in-loop-i.ensures line c.in_ok-push_str.ensures.bytes c.loop-i.invariant

pub returns : goal.returns
returns c =
    let high : length c.args.tells.now ≤ c.loop-i.i = omega (arith, c.len-i-end.ensures) in
    c.from_string.ensures ∙ numbered_end (string_bytes c.loop-i.text) _ c.args.tells.now c.args.answers.now c.loop-i.i high c.loop-i.invariant
