use Rattle.std.proofs.Common.{◌++◌, [], ◌∷◌, take, string_bytes, sym, subst}
use Rattle.views.proofs.StepLemmas.{take_next}
use Rattle.views.specs.Line.{AreDayLines}
use Rattle.views.proofs.LineLemmas.{day_lines_push}
use Rattle.parts.proofs.days.print_days.Goals as goal

pub loop-i-preserved : goal.loop-i-preserved
loop-i-preserved c =
    let rows = c.args.rows.now in
    let row = c.at.result.now in
    let added = c.in_ok-add_line.ensures in
    subst (λ rs. AreDayLines rs (string_bytes c.add_line.new.out)) (sym (take_next rows c.loop-i.i row c.at.ensures))
    (subst (λ t. AreDayLines (take c.loop-i.i rows ++ row ∷ []) t) (sym added.2)
    (day_lines_push (take c.loop-i.i rows) (string_bytes c.loop-i.out) row added.0 c.loop-i.invariant added.1))
