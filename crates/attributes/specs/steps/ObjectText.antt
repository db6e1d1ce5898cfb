-- The text of an object that is written from the left, and its members.
use Rattle.std.specs.Prelude.{◌≡◌, ℕ, List, [], ◌∷◌, ◌++◌, length, Bool, true, false, nat_lt, codes, string_bytes}
use Rattle.serde_json.specs.Data.{Data, string, Members, no_members, member, put}
use Rattle.serde_json.specs.Written.{comma_if, compact_text, members_text}
use Rattle.json.specs.Print.{quoted}
use Rattle.base64.specs.Engines.{standard}
use Rattle.base64.specs.GeneralPurpose.{encode_of}
use Rattle.attributes.specs.declared.body.Draft.{Draft}
use Rattle.attributes.specs.declared.canonical.PayloadMember.{PayloadMember}
use Rattle.attributes.specs.declared.content.Content.{Content}
use Rattle.attributes.specs.declared.content.Content.TheVariants as content

-- the members of one object of an event, then those of another
abbrev pub then_members : Members → Members → Members
then_members no_members ns = ns
then_members (member k d ms) ns = member k d (then_members ms ns)

-- an event's text, so far, with these members behind it and closed
abbrev pub onto : List ℕ → Members → List ℕ
onto out ms = out ++ members_text (nat_lt 1 (length out)) ms

-- the text of an event's draft, with these members behind it and closed
abbrev pub with_members : Draft → Members → List ℕ
with_members draft ms = onto (string_bytes draft.text) ms

-- an attribute's text between quotation marks, as it is
abbrev pub marked : List ℕ → List ℕ
marked text = 34 ∷ (text ++ 34 ∷ [])

-- a comma in a canonical text, where a member stands before
abbrev pub comma_behind : List ℕ → List ℕ
comma_behind out = comma_if (nat_lt 1 (length out))

-- an attribute's name behind a text: a comma where a member stands before, its JSON, a colon
abbrev pub name_behind : List ℕ → List ℕ → List ℕ
name_behind out name = comma_behind out ++ (quoted name ++ 58 ∷ [])

-- an event's key: a quotation mark, the source, a mark, the id, a mark
abbrev pub key_text : List ℕ → List ℕ → List ℕ
key_text source id = marked source ++ (id ++ 34 ∷ [])

-- the text is the JSON of the payload's value, where its member waits
abbrev pub IsWaiting : Bool → List ℕ → Data → Type 0
IsWaiting waiting json d = waiting ≡ true → json ≡ compact_text d

-- the members of a canonical text, with the payload where it still waits
abbrev pub pending : Bool → List ℕ → Data → Members → Members
pending true k d ms = put k d ms
pending false k d ms = ms

-- whether an event's content is a member, its name, and the text of its value
abbrev pub IsPayload : Content → Bool → List ℕ → List ℕ → Type 0
IsPayload content.Nothing there name json = (there ≡ false) × (name ≡ codes "data") × (json ≡ [])
IsPayload (content.Tree d) there name json =
    (there ≡ true) × (name ≡ codes "data") × (json ≡ compact_text d)
IsPayload (content.Bytes b) there name json =
    (there ≡ true) × (name ≡ codes "data_base64")
    × (json ≡ compact_text (string (encode_of standard b)))

-- the payload member is that of an event with this content
abbrev pub IsPayloadOf : Content → PayloadMember → Type 0
IsPayloadOf c p = IsPayload c p.is_there p.name.now (string_bytes p.json)
