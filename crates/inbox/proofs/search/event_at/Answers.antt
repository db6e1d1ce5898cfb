use Rattle.std.proofs.Common.{◌<◌, length, ◌∙◌}
use Rattle.inbox.specs.steps.Woven.{order}
use Rattle.inbox.proofs.SearchLemmas.{all_at, all_within, read_place}
use Rattle.inbox.proofs.search.event_at.Goals as goal

pub event_in-requires : goal.event_in-requires
event_in-requires c = all_at (λ p. p < length c.args.arrivals.now) (order c.args.places.now) c.args.i c.at.result (all_within _ _ _ c.requires.reads) c.at.ensures

pub returns : goal.returns
returns c = read_place c.args.arrivals.now (order c.args.places.now) _ c.args.i c.at.result c.requires.reads c.at.ensures ∙ c.event_in.ensures
