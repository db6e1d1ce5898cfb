-- Which member of an event a fault is of.
use Rattle.std.specs.Prelude.{ℕ, List, Bool, true, not, ◌&&◌, if◌then◌else◌, is_some, Option, None, Some}
use Rattle.serde_json.specs.Data.{Data, Members, no_members, member}
use Rattle.attributes.specs.Character.{is_name}
use Rattle.attributes.specs.Fault.{is_attribute}
use Rattle.attributes.specs.declared.scalar.Given.{Given}
use Rattle.attributes.specs.declared.fault.Fault.{Fault}
use Rattle.attributes.specs.declared.fault.Fault.TheVariants as fault
use Rattle.event_json.specs.Payload.{is_payload}
use Rattle.event_json.specs.Spelling.{given_in, members_in}
use Rattle.fault_lines.specs.Words.{attribute_name}

-- for a fault's line: the value that a member offers, if it does, is that of an attribute
abbrev pub is_fit : Option Given → Bool
is_fit None = true
is_fit (Some g) = is_attribute g

-- for a fault's line: a member that is set, without data, has a name that no attribute has
abbrev pub is_misnamed : List ℕ → Data → Bool
is_misnamed name d = not (is_payload name) && (is_some (given_in d) && not (is_name name))

-- for a fault's line: a member without data has a value that no attribute has
abbrev pub is_unfit : List ℕ → Data → Bool
is_unfit name d = not (is_payload name) && not (is_fit (given_in d))

-- for a fault's line: the name of the first member of which a test holds
abbrev pub first_where : (List ℕ → Data → Bool) → Members → Option (List ℕ)
first_where Test no_members = None
first_where Test (member name d ms) = if Test name d then Some name else first_where Test ms

-- the name of the member that a fault's line tells, of a fault of this value
abbrev pub member_at_fault : Fault → Data → Option (List ℕ)
member_at_fault fault.ExtensionName tree = first_where is_misnamed (members_in tree)
member_at_fault fault.ExtensionValue tree = first_where is_unfit (members_in tree)
member_at_fault why tree = attribute_name why
