-- An inbox as contracts see it, and what comes to it.
use Rattle.std.specs.Prelude.{◌≡◌, ℕ, ◌+◌, List, true, false, Some, length, slice_get, take, if◌then◌else◌}
use Rattle.attributes.specs.Event.{EventValue}
use Rattle.inbox.specs.KeyOrder.{key_cmp}
use Rattle.inbox.specs.Ordered.{append_new, has}
use Rattle.inbox.specs.Sets.{set_of, union}
use Rattle.inbox.specs.declared.inbox.Taken.{Taken}
use Rattle.inbox.specs.declared.inbox.Taken.TheVariants.{Again, New}

-- an inbox: its events in order of arrival, and for how many more there is room
pub record Kept : Type 0 where
  pub arrivals : List EventValue
  pub spare : ℕ

-- the inbox's set of events
abbrev pub events : Kept → List EventValue
events inbox = set_of inbox.arrivals

-- the first n events of the inbox's set, in key order
abbrev pub prefix : ℕ → Kept → List EventValue
prefix n inbox = take n (events inbox)

-- an event is in the inbox
abbrev pub IsThere : Kept → EventValue → Type 0
IsThere inbox e = has key_cmp inbox.arrivals e ≡ true

-- the event at a place of a list, where there is one, is not in the inbox
abbrev pub LacksAt : Kept → List EventValue → ℕ → Type 0
LacksAt inbox L i = (e : EventValue) → slice_get L i ≡ Some e → has key_cmp inbox.arrivals e ≡ false

-- the inbox's answer to an event that comes
abbrev pub answer_to : Kept → EventValue → Taken
answer_to inbox e = if has key_cmp inbox.arrivals e then Again else New

-- the events of L have come to the inbox: the new ones stand behind those before, in their order
abbrev pub HaveCome : List EventValue → Kept → Kept → Type 0
HaveCome L old new = new.arrivals ≡ append_new key_cmp old.arrivals L

-- so many of the events that came are new to the inbox
abbrev pub IsGrownBy : ℕ → Kept → Kept → Type 0
IsGrownBy n old new = length old.arrivals + n ≡ length new.arrivals

-- the inbox's set is the one that was kept, with the events of L
abbrev pub Adds : List EventValue → Kept → Kept → Type 0
Adds L old new = events new ≡ union (events old) L
