use Rattle.kept_views.specs.Tables.{is_entity}
use Rattle.kept_views.specs.steps.Seen.{rows_in, entity_in}
use Rattle.kept_views.proofs.AnswerLemmas.{distinct_seen}
use Rattle.kept_views.proofs.latest.ordered_latest.Goals as goal

pub returns-clause-distinct : goal.returns-clause-distinct
returns-clause-distinct c = distinct_seen entity_in is_entity rows_in c.args.entities.now.entries c.iter-rows-items.ensures.unique
