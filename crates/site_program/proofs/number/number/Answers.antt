use Rattle.site_program.proofs.NumberLemmas.{refused_numbers}
use Rattle.site_program.proofs.number.number.Goals as goal

pub returns-in-Refused : goal.returns-in-Refused
returns-in-Refused g c =
    refused_numbers (g.S.Shelf.is_content c.args.shelf.now) (g.S.Shelf.is_unread c.args.shelf.now) c.args.plan.now _ c.in-Refused.refusal c.say.result _ _ _ _ _
    c.of_number-names.ensures c.in-Refused.ensures c.say.ensures
