use Rattle.views.proofs.TieLemmas.{none_tie, entities_have_latest}
use Rattle.views.proofs.laws.latest_are_one.Goals as goal

pub returns-clause-each : goal.returns-clause-each
returns-clause-each c = entities_have_latest

pub returns-clause-one : goal.returns-clause-one
returns-clause-one c = none_tie c.text_tells_events.ensures c.sets_are_members.ensures
