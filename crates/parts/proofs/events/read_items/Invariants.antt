use Rattle.std.proofs.Common.{◌≡◌, List, map, take}
use Rattle.std.specs.List.{AllByRecursion}
use Rattle.serde_json.specs.View.{items_of, items_view}
use Rattle.attributes.specs.Event.{EventValue}
use Rattle.parts.specs.Conflict.{IsSequenced, event_data}
use Rattle.parts.proofs.events.read_items.Given as goal

abbrev pub invariant-loop-item : goal.invariant-loop-item
invariant-loop-item l = (es : List EventValue) → AllByRecursion IsSequenced es → items_view l.items ≡ items_of (map event_data es) → l.events ≡ take l.item-index es
