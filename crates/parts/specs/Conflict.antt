-- The line of a conflict as JSON.
use Rattle.std.specs.Prelude.{◌≡◌, ℕ, Some, codes, map}
use Rattle.serde_json.specs.Data.{Data, array, member, no_members, object, string}
use Rattle.serde_json.specs.View.{items_of}
use Rattle.attributes.specs.Event.{EventValue, members_of}
use Rattle.attributes.specs.Fault.{IsEvent}
use Rattle.attributes.specs.Sequence.{number_of}
use Rattle.inbox.specs.declared.conflict.Conflict.{Conflict}

-- what a part's line tells is an event and has a number
abbrev pub IsSequenced : EventValue → Type 0
IsSequenced e = IsEvent e × ((n : ℕ) × (number_of e ≡ Some n))

-- an event as JSON in a part's line of a conflict
abbrev pub event_data : EventValue → Data
event_data e = object (members_of e)

-- {"events":[E1,E2,..],"id":ID,"source":SOURCE}, the JSON of a part's conflict
abbrev pub conflict_data : Conflict → Data
conflict_data c =
    object (member (codes "events") (array (items_of (map event_data c.events)))
    (member (codes "id") (string c.id) (member (codes "source") (string c.source) no_members)))
