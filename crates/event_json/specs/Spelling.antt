-- What a JSON value spells as an event (CloudEvents JSON Event Format 1.0.2, sections 2.2 and 3).
use Rattle.std.specs.Prelude.{ℕ, ℤ, List, [], ◌∷◌, Option, Some, None, if◌then◌else◌}
use Rattle.serde_json.specs.Data.{Data, null, boolean, number, string, array, object, Items, no_items, item, Members, no_members, member}
use Rattle.serde_json.specs.Find.{as_i64}
use Rattle.attributes.specs.Event.{EventValue, OfferValue, event_of}
use Rattle.attributes.specs.Fault.{is_integer, fault}
use Rattle.attributes.specs.declared.scalar.Given.{Given}
use Rattle.attributes.specs.declared.scalar.Given.TheVariants as given
use Rattle.attributes.specs.declared.fault.Fault.{Fault}
use Rattle.attributes.specs.declared.fault.Fault.TheVariants.{SpecVersion}
use Rattle.event_json.specs.Payload.{attribute_members, offered_in}

-- a JSON number as a whole number of 32 bits, or a value of no attribute type
abbrev pub given_whole : Option ℤ → Given
given_whole None = given.Other
given_whole (Some z) = if is_integer z then given.Whole z else given.Other

-- what a JSON member's value offers for an event; a null offers nothing
abbrev pub given_in : Data → Option Given
given_in null = None
given_in (boolean b) = Some (given.Flag b)
given_in (number n) = Some (given_whole (as_i64 n))
given_in (string s) = Some (given.Words s)
given_in _ = Some given.Other

-- the JSON members' values by name, with what is offered at the name before them
abbrev pub with_given : List ℕ → Option Given → List (List ℕ × Given) → List (List ℕ × Given)
with_given name None rest = rest
with_given name (Some g) rest = (name, g) ∷ rest

-- the values by name that a JSON object's members spell
abbrev pub spelled : Members → List (List ℕ × Given)
spelled no_members = []
spelled (member k d ms) = with_given k (given_in d) (spelled ms)

-- the parts of an event that a JSON object's members spell
abbrev pub parts_in : Members → OfferValue
parts_in ms = record { members = spelled (attribute_members ms); offered = offered_in ms }

-- the first fault of JSON that is to be an event; what is no object has no version
abbrev pub fault_in : Data → Option Fault
fault_in (object ms) = fault (parts_in ms)
fault_in _ = Some SpecVersion

-- the members of a JSON object that is to be an event
abbrev pub members_in : Data → Members
members_in (object ms) = ms
members_in _ = no_members

-- the event that a JSON object without fault spells
abbrev pub event_in : Data → EventValue
event_in d = event_of (parts_in (members_in d))

-- the members of a JSON array that is to be a batch
abbrev pub list_of : Items → List Data
list_of no_items = []
list_of (item d ds) = d ∷ list_of ds

-- what of JSON is to be events: an object alone, or the members of an array
abbrev pub candidates : Data → Option (List Data)
candidates (array ds) = Some (list_of ds)
candidates (object ms) = Some (object ms ∷ [])
candidates _ = None
