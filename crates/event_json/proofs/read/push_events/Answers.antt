use Rattle.std.proofs.Common.{map, ◌++◌, length}
use Rattle.serde_json.specs.View.{view}
use Rattle.event_json.specs.Spelling.{event_in}
use Rattle.event_json.specs.steps.Walk.{first_bad}
use Rattle.event_json.proofs.WalkLemmas.{batch_step}
use Rattle.event_json.proofs.read.push_events.Goals as goal

pub loop-item-preserved : goal.loop-item-preserved
loop-item-preserved c =
    batch_step c.loop-item.events c.push.new.self c.in-Ok.event c.in-Some.item c.loop-item.item-iterator.rest.items c.next.new.self.rest.items
    (c.args.events.now ++ map event_in (map view c.args.items.items)) (first_bad (length c.args.events.now) (map view c.args.items.items))
    c.in-Some.ensures.steps.0 c.in_ok-push-in-Ok.ensures.ok c.in-Ok.ensures.ok c.in-Ok.ensures.built
    c.loop-item.invariant.0 c.loop-item.invariant.1
