-- What is done, then the rest, is the whole; the first bad one of the rest is that of the whole.
use Rattle.std.proofs.Common.{◌≡◌, ◌++◌, map, length}
use Rattle.serde_json.specs.View.{view}
use Rattle.event_json.specs.Spelling.{event_in}
use Rattle.event_json.specs.steps.Walk.{first_bad}
use Rattle.event_json.proofs.read.push_events.Given as goal

abbrev pub invariant-loop-item : goal.invariant-loop-item
invariant-loop-item l =
    (l.events ++ map event_in (map view l.item-iterator.rest.items) ≡ l.initial.events ++ map event_in (map view l.fn.items.items))
    × (first_bad (length l.events) (map view l.item-iterator.rest.items) ≡ first_bad (length l.initial.events) (map view l.fn.items.items))
