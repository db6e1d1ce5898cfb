-- What an event is, and its canonical text.
use Rattle.std.specs.Prelude.{◌≡◌, ℕ, ℤ, List, [], ◌∷◌, Option, Some, None, option_and_then, codes, String, ⊤}
use Rattle.std.specs.declared.alloc.Global.{Global}
use Rattle.base64.specs.Engines.{standard}
use Rattle.base64.specs.GeneralPurpose.{encode_of}
use Rattle.serde_json.specs.Data.{Data, null, boolean, number, string, object, Members, no_members, member, put}
use Rattle.serde_json.specs.Find.{of_integer}
use Rattle.serde_json.specs.Written.{compact_text}
use Rattle.attributes.specs.Members.{named, value_at}
use Rattle.attributes.specs.Time.{time_day}
use Rattle.attributes.specs.declared.body.Attribute.{Attribute}
use Rattle.attributes.specs.declared.body.Attribute.TheVariants as attribute
use Rattle.attributes.specs.declared.scalar.Scalar.{Scalar}
use Rattle.attributes.specs.declared.scalar.Scalar.TheVariants as scalar
use Rattle.attributes.specs.declared.scalar.Given.{Given}
use Rattle.attributes.specs.declared.scalar.Given.TheVariants as given
use Rattle.attributes.specs.declared.content.Content.{Content}
use Rattle.attributes.specs.declared.content.Content.TheVariants as content
use Rattle.attributes.specs.declared.content.Payload.{Payload}
use Rattle.attributes.specs.declared.content.Payload.TheVariants as payload
use Rattle.attributes.specs.declared.content.Offered.{Offered}
use Rattle.attributes.specs.declared.content.Offered.TheVariants as offered

-- attributes by name, and what the event carries
-- (CloudEvents 1.0.2, "Context Attributes", "Event Data")
pub record EventValue : Type 0 where
  pub attributes : List (List ℕ × Scalar)
  pub content : Content

-- an attribute as JSON (CloudEvents JSON Event Format 1.0.2, "Type System Mapping")
abbrev pub json_of : Scalar → Data
json_of (scalar.Flag b) = boolean b
json_of (scalar.Whole z) = number (of_integer z)
json_of (scalar.Words t) = string t

-- the members of an event's object, with those of the attributes put to them
abbrev pub with_all : Members → List (List ℕ × Scalar) → Members
with_all ms [] = ms
with_all ms (a ∷ rest) = with_all (put a.0 (json_of a.1) ms) rest

-- the members, with the payload member put to them
-- (CloudEvents JSON Event Format 1.0.2, "Handling of data"; RFC 4648, section 4)
abbrev pub with_content : Content → Members → Members
with_content content.Nothing ms = ms
with_content (content.Tree d) ms = put (codes "data") d ms
with_content (content.Bytes b) ms = put (codes "data_base64") (string (encode_of standard b)) ms

-- the members of the event's JSON object, which has each name once and in byte order
abbrev pub members_of : EventValue → Members
members_of e = with_content e.content (with_all no_members e.attributes)

-- the canonical text of an event
abbrev pub text : EventValue → List ℕ
text e = compact_text (object (members_of e))

-- an event's attributes as members, as they stand
abbrev pub direct : List (List ℕ × Scalar) → Members
direct [] = no_members
direct (a ∷ rest) = member a.0 (json_of a.1) (direct rest)

-- before others, the attribute of an event that is given; `Other` gives none
abbrev pub given_member : List ℕ → Given → List (List ℕ × Scalar) → List (List ℕ × Scalar)
given_member name (given.Flag b) rest = (name, scalar.Flag b) ∷ rest
given_member name (given.Whole z) rest = (name, scalar.Whole z) ∷ rest
given_member name (given.Words t) rest = (name, scalar.Words t) ∷ rest
given_member name given.Other rest = rest

-- the attributes of an event that are given
abbrev pub scalars_of : List (List ℕ × Given) → List (List ℕ × Scalar)
scalars_of [] = []
scalars_of (m ∷ ms) = given_member m.0 m.1 (scalars_of ms)

-- what is to be an event: members by name, and what the payload members were
pub record OfferValue : Type 0 where
  pub members : List (List ℕ × Given)
  pub offered : Offered

-- an event's content by its tree: a tree that is null is nothing
abbrev pub tree_content : Data → Content
tree_content null = content.Nothing
tree_content d = content.Tree d

-- what an event's parts without a fault carry
abbrev pub content_of : Offered → Content
content_of (offered.Tree d) = tree_content d
content_of (offered.Bytes b) = content.Bytes b
content_of _ = content.Nothing

-- the event of its parts
abbrev pub event_of : OfferValue → EventValue
event_of p = record { attributes = scalars_of p.members; content = content_of p.offered }

-- ---- what readers answer

-- the attribute's value that is lent
abbrev pub scalar_of : Attribute → Scalar
scalar_of (attribute.Flag b) = scalar.Flag b
scalar_of (attribute.Whole z) = scalar.Whole z
scalar_of (attribute.Words t) = scalar.Words t.now

-- the event's attribute, where it is a text
abbrev pub words_of : Option Scalar → Option (List ℕ)
words_of (Some (scalar.Words t)) = Some t
words_of _ = None

-- the attribute's text, or else the empty one
abbrev pub words_or_empty : Option Scalar → List ℕ
words_or_empty (Some (scalar.Words t)) = t
words_or_empty _ = []

-- the event's attribute of this name
abbrev pub attribute_of : List ℕ → EventValue → Option Scalar
attribute_of name e = value_at name e.attributes

-- the attribute `id`, which tells the events of one source apart
abbrev pub id_of : EventValue → List ℕ
id_of e = words_or_empty (attribute_of (codes "id") e)

-- the attribute `source`: where the event comes from
abbrev pub source_of : EventValue → List ℕ
source_of e = words_or_empty (attribute_of (codes "source") e)

-- the event's type: what happened
abbrev pub kind_of : EventValue → List ℕ
kind_of e = words_or_empty (attribute_of (codes "type") e)

-- the attribute `subject`: what the event is about, where it says so
abbrev pub subject_of : EventValue → Option (List ℕ)
subject_of e = words_of (attribute_of (codes "subject") e)

-- the attribute `time` of an event, where it has one
abbrev pub time_of : EventValue → Option (List ℕ)
time_of e = words_of (attribute_of (codes "time") e)

-- the UTC day of the event's time, counted from 1970-01-01, where it has a time
abbrev pub day_of : EventValue → Option ℤ
day_of e = option_and_then time_day (time_of e)

-- ---- what fields stand for

-- what is lent is the event's content, of a tree its compact text
abbrev pub Lends : Payload → Content → Type 0
Lends payload.Nothing content.Nothing = ⊤
Lends (payload.Json t) (content.Tree d) = t.now ≡ compact_text d
Lends (payload.Bytes b) (content.Bytes c) = b.now ≡ c
Lends _ _ = ⊥

-- the event of these attributes and this content
abbrev pub view_of : List (List ℕ × Scalar) → Content → EventValue
view_of attributes content = record { attributes = attributes; content = content }

-- an event's parts of members and of what was offered beside them
abbrev pub offer_of : List (String Global × Given) → Offered → OfferValue
offer_of members offered = record { members = named members; offered = offered }
