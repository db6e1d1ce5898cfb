use Rattle.std.proofs.Common.{◌≡◌, ◌≤◌, length, arith, string_bytes, ◌∙◌}
use Rattle.number_lines.specs.Texts.{refusal_text}
use Rattle.number_lines.proofs.TextLemmas.{fault_end, fault_next}
use Rattle.number_lines.proofs.text.fault_text.Goals as goal

pub loop-i-preserved : goal.loop-i-preserved
loop-i-preserved c =
    let line : c.as_str.result.now ≡ refusal_text c.at.result.now.line c.at.result.now.fault = c.as_str.ensures.value ∙ c.in_ok-line.ensures in
    fault_next (string_bytes c.loop-i.text) (string_bytes c.push_str.new.self) c.as_str.result.now _ c.args.tells.now c.loop-i.i c.at.result.now
    c.at.ensures line c.in_ok-push_str.ensures.bytes c.loop-i.invariant

pub returns : goal.returns
returns c =
    let high : length c.args.tells.now ≤ c.loop-i.i = omega (arith, c.len-i-end.ensures) in
    c.from_string.ensures ∙ fault_end (string_bytes c.loop-i.text) _ c.args.tells.now c.loop-i.i high c.loop-i.invariant
