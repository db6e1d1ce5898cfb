use Rattle.std.proofs.Common.{false, subst, true}
use Rattle.site_program.proofs.RunLemmas.{named_ending, told_ending}
use Rattle.site_program.specs.Answers.{AnswersOnce, RefusesOnce}
use Rattle.site_commands.specs.Names.{lent}
use Rattle.site_commands.specs.Printed.{printed}
use Rattle.site_program.proofs.run.ending_of.Goals as goal

pub returns-in-Ok-Line : goal.returns-in-Ok-Line
returns-in-Ok-Line g c =
    let shelf = c.args.shelf.now in let plan = c.args.plan.now in
    told_ending (AnswersOnce (g.S.Shelf.is_content shelf) plan) (RefusesOnce (g.S.Shelf.is_content shelf) (g.S.Shelf.is_unread shelf) plan)
    _ (lent c.of_once-names.result) c.match-made_by.is_made false c.in-Ok-Line.text c.answered.result c.of_once-names.ensures
    (subst (λ p. AnswersOnce (g.S.Shelf.is_content shelf) plan (printed p)) c.in-Ok-Line.field-0-is c.in-Ok-Line.ensures.ok) c.answered.ensures

pub returns-in-Ok-Founded : goal.returns-in-Ok-Founded
returns-in-Ok-Founded g c =
    let shelf = c.args.shelf.now in let plan = c.args.plan.now in
    told_ending (AnswersOnce (g.S.Shelf.is_content shelf) plan) (RefusesOnce (g.S.Shelf.is_content shelf) (g.S.Shelf.is_unread shelf) plan)
    _ (lent c.of_once-names.result) c.match-made_by.is_made true c.in-Ok-Founded.text c.answered-in-Ok-Founded.result c.of_once-names.ensures
    (subst (λ p. AnswersOnce (g.S.Shelf.is_content shelf) plan (printed p)) c.in-Ok-Founded.field-0-is c.in-Ok-Founded.ensures.ok) c.answered-in-Ok-Founded.ensures

pub returns-in-Err : goal.returns-in-Err
returns-in-Err g c =
    let shelf = c.args.shelf.now in let plan = c.args.plan.now in
    named_ending (AnswersOnce (g.S.Shelf.is_content shelf) plan) (RefusesOnce (g.S.Shelf.is_content shelf) (g.S.Shelf.is_unread shelf) plan)
    _ _ c.in-Err.refusal c.refused.result c.of_once-names.ensures c.in-Err.ensures.err c.refused.ensures
