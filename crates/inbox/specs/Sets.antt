-- Sets of events, each as the list of its members in key order.
use Rattle.std.specs.Prelude.{◌≡◌, List, []}
use Rattle.std.specs.List.{AllByRecursion}
use Rattle.attributes.specs.Event.{EventValue}
use Rattle.attributes.specs.Fault.{IsEvent}
use Rattle.inbox.specs.KeyOrder.{key_cmp}
use Rattle.inbox.specs.Ordered.{add_all, append_new, in_order}

-- the set of the events of a list, each once and in key order
abbrev pub set_of : List EventValue → List EventValue
set_of = in_order key_cmp

-- the union of sets of events: E, with each of the events F
abbrev pub union : List EventValue → List EventValue → List EventValue
union E F = add_all key_cmp E F

-- no event stands twice in a list, as in a set
abbrev pub IsEachOnce : List EventValue → Type 0
IsEachOnce L = append_new key_cmp [] L ≡ L

-- each item of a list for a set is an event
abbrev pub AreEvents : List EventValue → Type 0
AreEvents L = AllByRecursion IsEvent L
