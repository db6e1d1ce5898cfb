use Rattle.std.proofs.Common.{◌∙◌, ◌++◌, ap, drop, string_bytes}
use Rattle.site_commands.specs.Checks.{refusal_lines}
use Rattle.site_commands.proofs.RefusalLemmas.{line_more, no_line}
use Rattle.site_commands.proofs.refusal.refusal_lines.Goals as goal
use Rattle.site_commands.proofs.refusal.refusal_lines.Goals.{in-Some+in_ok-line+in_ok-push_str, in_default}

pub loop-i-preserved : goal.loop-i-preserved
loop-i-preserved c =
    let name = c.args.name.now in
    let es = c.args.events.now in
    let e = c.at-event.result.now in
    let before = string_bytes c.loop-i.text in
    elim c.match-refusal_at.branch [
      | in-Some+in_ok-line+in_ok-push_str w ↦
          line_more name es c.loop-i.i e w.in-Some.why before w.as_str.result.now (string_bytes c.match-refusal_at.text)
          c.at-event.ensures w.in-Some.ensures.value (w.as_str.ensures ∙ w.in_ok-line.ensures) (ap string_bytes w.text-is ∙ w.in_ok-push_str.ensures.bytes) c.loop-i.invariant
      | in_default w ↦ no_line name es c.loop-i.i e (string_bytes c.match-refusal_at.text) c.at-event.ensures w.in_default.ensures.value
          (ap (λ t. string_bytes t ++ refusal_lines name c.loop-i.i (drop c.loop-i.i es)) w.text-is ∙ c.loop-i.invariant)
    ]
