use Rattle.std.proofs.Common.{◌++◌, string_bytes, sym, ap, ◌∙◌}
use Rattle.attributes.specs.Event.{text}
use Rattle.views.specs.Line.{line}
use Rattle.views.proofs.LineLemmas.{lines_more}
use Rattle.views.proofs.line.print_events.Goals as goal

pub loop-i-preserved : goal.loop-i-preserved
loop-i-preserved c =
    c.in_ok-end_line.ensures ∙ ap (λ t. string_bytes c.loop-i.out ++ line t) (c.text.ensures.text ∙ ap text c.event.ensures) ∙ ap (λ b. b ++ line (text c.at.result.now)) c.loop-i.invariant
    ∙ sym (lines_more (λ e. line (text e)) c.args.events.now c.loop-i.i c.at.result.now c.at.ensures)
