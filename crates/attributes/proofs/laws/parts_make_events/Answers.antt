use Rattle.attributes.proofs.EventLemmas.{event_again}
use Rattle.attributes.proofs.laws.parts_make_events.Goals as goal

pub returns : goal.returns
returns c = event_again
