use Rattle.std.proofs.Common.{◌++◌, sym, ap, ◌∙◌}
use Rattle.views.specs.Line.{gap_line}
use Rattle.views.proofs.LineLemmas.{lines_more}
use Rattle.views.proofs.line.print_gaps.Goals as goal

pub loop-i-preserved : goal.loop-i-preserved
loop-i-preserved c =
    c.in_ok-add_gap.ensures ∙ ap (λ b. b ++ gap_line c.at.result.now) c.loop-i.invariant ∙ sym (lines_more gap_line c.args.gaps.now c.loop-i.i c.at.result.now c.at.ensures)
