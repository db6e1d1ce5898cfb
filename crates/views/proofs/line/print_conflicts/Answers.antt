use Rattle.std.proofs.Common.{◌++◌, sym, ap, ◌∙◌}
use Rattle.views.specs.Line.{conflict_line}
use Rattle.views.proofs.LineLemmas.{lines_more}
use Rattle.views.proofs.line.print_conflicts.Goals as goal

pub loop-i-preserved : goal.loop-i-preserved
loop-i-preserved c =
    c.in_ok-add_row.ensures ∙ ap (λ b. b ++ conflict_line c.at.result.now) c.loop-i.invariant ∙ sym (lines_more conflict_line c.args.rows.now c.loop-i.i c.at.result.now c.at.ensures)
