-- The keys that several events of a set E, a list in key order, have: source and id are to tell
-- events apart (CloudEvents 1.0.2, "id"), and here they don't.
use Rattle.std.specs.Prelude.{List, Bool, ◌&&◌, filter, length, map, nat_lt}
use Rattle.attributes.specs.Event.{EventValue, id_of, source_of}
use Rattle.inbox.specs.KeyOrder.{same_key}
use Rattle.inbox.specs.Shown.{is_shown}
use Rattle.inbox.specs.declared.conflict.Conflict.{Conflict}

-- the events of a set that have the key of e
abbrev pub of_key : List EventValue → EventValue → List EventValue
of_key E e = filter (λ f. same_key f e) E

-- whether an event is the shown one of two or more of its key, which are in conflict
abbrev pub is_first_of_several : List EventValue → EventValue → Bool
is_first_of_several E e = is_shown E e && nat_lt 1 (length (of_key E e))

-- the conflict of the key of an event
abbrev pub conflict_of : List EventValue → EventValue → Conflict
conflict_of E e = record { source = source_of e; id = id_of e; events = of_key E e }

-- the conflicts of the keys whose shown events are among those of L
abbrev pub conflicts_of : List EventValue → List EventValue → List Conflict
conflicts_of E L = map (conflict_of E) (filter (is_first_of_several E) L)

-- the keys that two or more events have, in key order, each with its events by text
abbrev pub conflicts : List EventValue → List Conflict
conflicts E = conflicts_of E E
