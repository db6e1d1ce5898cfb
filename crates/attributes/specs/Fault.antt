-- The faults of parts, in the order of their tests.
use Rattle.std.specs.Prelude.{◌≡◌, ◌≢◌, ⊤, nat_le, ℕ, ℤ, pos, negsuc, int_lt, List, [], ◌∷◌, map, length, Bool, true, false, not, ◌&&◌, if◌then◌else◌, nat_lt, Option, Some, None, is_some, codes, bytes_eq, IsUtf8}
use Rattle.std.specs.List.{list_all}
use Rattle.std.specs.Option.{option_or}
use Rattle.base64.specs.GeneralPurpose.{IsBytes}
use Rattle.serde_json.specs.Data.{null, depth}
use Rattle.serde_json.specs.Written.{has_float}
use Rattle.attributes.specs.Character.{is_printable, is_filled, is_name}
use Rattle.attributes.specs.Members.{value_at, with_value, AreNamesInOrder}
use Rattle.attributes.specs.Time.{time_day}
use Rattle.attributes.specs.Exact.{IsExact}
use Rattle.attributes.specs.Event.{EventValue, OfferValue, event_of, text}
use Rattle.attributes.specs.declared.content.Content.{Content}
use Rattle.attributes.specs.declared.content.Content.TheVariants as content
use Rattle.attributes.specs.declared.content.Offered.{Offered}
use Rattle.attributes.specs.declared.content.Offered.TheVariants as offered
use Rattle.attributes.specs.declared.scalar.Scalar.{Scalar}
use Rattle.attributes.specs.declared.scalar.Scalar.TheVariants as scalar
use Rattle.attributes.specs.declared.scalar.Given.{Given}
use Rattle.attributes.specs.declared.scalar.Given.TheVariants as given
use Rattle.attributes.specs.declared.fault.Fault.{Fault}
use Rattle.attributes.specs.declared.fault.Fault.TheVariants.{OutOfMemory, SpecVersion, Id, Source, Kind, Subject, Time, ContentType, Schema, ExtensionName, ExtensionValue, TwoData, Base64, DataNumber, TooDeep, TooLarge, NoSequence, BadSequence}

-- the number that an event's fault is known by
abbrev pub fault_number : Fault → ℕ
fault_number OutOfMemory = 1
fault_number SpecVersion = 2
fault_number Id = 3
fault_number Source = 4
fault_number Kind = 5
fault_number Subject = 6
fault_number Time = 7
fault_number ContentType = 8
fault_number Schema = 9
fault_number ExtensionName = 10
fault_number ExtensionValue = 11
fault_number TwoData = 12
fault_number Base64 = 13
fault_number DataNumber = 14
fault_number TooDeep = 15
fault_number TooLarge = 16
fault_number NoSequence = 17
fault_number BadSequence = 18

-- an attribute that is a text and passes the test
abbrev pub is_text : (List ℕ → Bool) → Given → Bool
is_text test (given.Words t) = test t
is_text test _ = false

-- an attribute that is there, and a text that passes the test
abbrev pub is_required : (List ℕ → Bool) → Option Given → Bool
is_required test None = false
is_required test (Some g) = is_text test g

-- an attribute that is a text and passes the test, where it is there
abbrev pub is_allowed : (List ℕ → Bool) → Option Given → Bool
is_allowed test None = true
is_allowed test (Some g) = is_text test g

-- the one version of `specversion`
abbrev pub is_version : List ℕ → Bool
is_version t = bytes_eq t (codes "1.0")

-- an attribute from -2,147,483,648 to 2,147,483,647 (CloudEvents 1.0.2, "Type System", Integer)
abbrev pub is_integer : ℤ → Bool
is_integer z = not (int_lt z (negsuc 2147483647)) && int_lt z (pos 2147483648)

-- an attribute's value: a truth value, an integer, or a text with no control character
abbrev pub is_attribute : Given → Bool
is_attribute (given.Flag b) = true
is_attribute (given.Whole z) = is_integer z
is_attribute (given.Words t) = is_printable t
is_attribute given.Other = false

-- the first fault of an event whose test fails
abbrev pub first_failed : List (Bool × Fault) → Option Fault
first_failed [] = None
first_failed (t ∷ ts) = if t.0 then first_failed ts else Some t.1

-- an event's time: of RFC 3339, whose day is in the years 0000 to 9999
abbrev pub is_time : List ℕ → Bool
is_time t = is_some (time_day t)

-- not both payload members of an event
abbrev pub is_single : Offered → Bool
is_single offered.Both = false
is_single _ = true

-- an event's data in Base64 that can be decoded, where there is any
abbrev pub is_decodable : Offered → Bool
is_decodable offered.Undecodable = false
is_decodable _ = true

-- each number of an event's data is whole, within 64 bits
abbrev pub has_whole_numbers : Offered → Bool
has_whole_numbers (offered.Tree d) = not (has_float d)
has_whole_numbers _ = true

-- how deep arrays and objects may nest in an event's data
abbrev pub max_data_depth : ℕ
max_data_depth = 120

-- an event's data that nests no deeper than it may
abbrev pub is_shallow : Offered → Bool
is_shallow (offered.Tree d) = nat_le (depth d) max_data_depth
is_shallow _ = true

-- the tests of members, in their order; a known attribute that passed its own test passes those on
-- names and values too, so these go over all members
abbrev pub member_tests : List (List ℕ × Given) → List (Bool × Fault)
member_tests ms =
    (is_required is_version (value_at (codes "specversion") ms), SpecVersion)
    ∷ (is_required is_filled (value_at (codes "id") ms), Id)
    ∷ (is_required is_filled (value_at (codes "source") ms), Source)
    ∷ (is_required is_filled (value_at (codes "type") ms), Kind)
    ∷ (is_allowed is_filled (value_at (codes "subject") ms), Subject)
    ∷ (is_allowed is_time (value_at (codes "time") ms), Time)
    ∷ (is_allowed is_filled (value_at (codes "datacontenttype") ms), ContentType)
    ∷ (is_allowed is_filled (value_at (codes "dataschema") ms), Schema)
    ∷ (list_all (λ m. is_name m.0) ms, ExtensionName)
    ∷ (list_all (λ m. is_attribute m.1) ms, ExtensionValue)
    ∷ []

-- the tests of what is offered as an event's data, in their order
abbrev pub payload_tests : Offered → List (Bool × Fault)
payload_tests o =
    (is_single o, TwoData)
    ∷ (is_decodable o, Base64)
    ∷ (has_whole_numbers o, DataNumber)
    ∷ (is_shallow o, TooDeep)
    ∷ []

-- the first fault of an event's members, where they have one
abbrev pub member_fault : List (List ℕ × Given) → Option Fault
member_fault ms = first_failed (member_tests ms)

-- the first fault of what is offered as an event's data, where it has one
abbrev pub payload_fault : Offered → Option Fault
payload_fault o = first_failed (payload_tests o)

-- how many bytes an event's canonical text may have
abbrev pub max_text : ℕ
max_text = 262144

-- the fault `TooLarge`, where the event's canonical text has more bytes
abbrev pub size_fault : OfferValue → Option Fault
size_fault p = if nat_lt max_text (length (text (event_of p))) then Some TooLarge else None

-- the first fault of an event's parts, where they have one
abbrev pub fault : OfferValue → Option Fault
fault p = option_or (member_fault p.members) (option_or (payload_fault p.offered) (size_fault p))

-- ---- events

-- an event's attribute, as it is given to parts
abbrev pub given_of : Scalar → Given
given_of (scalar.Flag b) = given.Flag b
given_of (scalar.Whole z) = given.Whole z
given_of (scalar.Words t) = given.Words t

-- an event's attributes, as they are given to parts
abbrev pub given_all : List (List ℕ × Scalar) → List (List ℕ × Given)
given_all attributes = map (λ a. (a.0, given_of a.1)) attributes

-- an event's content, as it is offered to parts
abbrev pub offered_of : Content → Offered
offered_of content.Nothing = offered.Nothing
offered_of (content.Tree d) = offered.Tree d
offered_of (content.Bytes b) = offered.Bytes b

-- the parts that an event is the event of
abbrev pub parts_of : EventValue → OfferValue
parts_of e = record { members = given_all e.attributes; offered = offered_of e.content }

-- the parts of an event with this value at the name, in place of the one that was there
abbrev pub with_given : List ℕ → Given → OfferValue → OfferValue
with_given name g p = record p { members = with_value name g p.members }

-- an event's data: a tree that isn't null and that some JSON text has, or bytes
abbrev pub IsCarried : Content → Type 0
IsCarried content.Nothing = ⊤
IsCarried (content.Tree d) = (d ≢ null) × IsExact d
IsCarried (content.Bytes b) = IsBytes b

-- a finite map from names to values with a content, that has no fault and whose text is UTF-8
-- (RFC 8259, section 8.1)
pub record IsEvent (e : EventValue) : Type 0 where
  pub faultless : fault (parts_of e) ≡ None
  pub in_order : AreNamesInOrder e.attributes
  pub carried : IsCarried e.content
  pub utf8 : IsUtf8 (text e)
