use Rattle.std.proofs.Common.{subst}
use Rattle.site_program.proofs.RunLemmas.{named_ending}
use Rattle.site_program.specs.Answers.{AnswersRun, RefusesRun}
use Rattle.site_program.proofs.run.ending_of_run.Goals as goal

pub returns-in-Err : goal.returns-in-Err
returns-in-Err g c =
    let shelf = c.args.shelf.now in let plan = c.args.plan.now in
    named_ending (AnswersRun (g.S.Shelf.is_content shelf) plan.peer plan.files plan.has_lines) (RefusesRun (g.S.Shelf.is_content shelf) (g.S.Shelf.is_unread shelf) plan.peer plan.files plan.has_lines)
    _ _ c.in-Err.refusal c.refused.result c.of_run-names.ensures
    (subst (λ files. RefusesRun (g.S.Shelf.is_content shelf) (g.S.Shelf.is_unread shelf) plan.peer files plan.has_lines c.in-Err.refusal) c.as_slice.ensures c.in-Err.ensures.err)
    c.refused.ensures
