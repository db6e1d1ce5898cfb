-- What an event keeps.
use Rattle.std.specs.Prelude.{◌≡◌, ℕ, ℤ, List, [], Option, Some, None}
use Rattle.base64.specs.Engines.{standard}
use Rattle.base64.specs.GeneralPurpose.{encode_of}
use Rattle.serde_json.specs.Data.{Data, null, string}
use Rattle.serde_json.specs.Read.{read}
use Rattle.serde_json.specs.Written.{compact_text}
use Rattle.attributes.specs.Event.{EventValue, day_of, id_of, kind_of, source_of, text, view_of}
use Rattle.attributes.specs.Fault.{IsCarried, IsEvent, offered_of, payload_fault}
use Rattle.attributes.specs.steps.ObjectText.{IsPayloadOf}
use Rattle.attributes.specs.declared.canonical.PayloadMember.{PayloadMember}
use Rattle.attributes.specs.steps.Place.{IsBody, attributes_in, id_in, kind_in, payload_in, source_in, text_of}
use Rattle.attributes.specs.declared.content.Content.{Content}
use Rattle.attributes.specs.declared.content.Content.TheVariants as content
use Rattle.attributes.specs.declared.content.Kept.{Kept}
use Rattle.attributes.specs.declared.content.Kept.TheVariants as kept
use Rattle.attributes.specs.declared.body.Body.{Body}

-- what is kept of an event's content
abbrev pub kept_of : Content → Kept
kept_of content.Nothing = kept.Nothing
kept_of (content.Tree d) = kept.Json
kept_of (content.Bytes b) = kept.Bytes b

-- the tree of an event's data that was read
abbrev pub tree_of_read : Option Data → Data
tree_of_read (Some d) = d
tree_of_read None = null

-- what an event carries, by the payload's text and by what is kept
abbrev pub content_in : List ℕ → Kept → Content
content_in payload kept.Nothing = content.Nothing
content_in payload kept.Json = content.Tree (tree_of_read (read payload))
content_in payload (kept.Bytes b) = content.Bytes b

-- the payload's text is that of the value that an event's content is in JSON
abbrev pub TellsContent : List ℕ → Content → Type 0
TellsContent payload content.Nothing = payload ≡ []
TellsContent payload (content.Tree d) = payload ≡ compact_text d
TellsContent payload (content.Bytes b) = payload ≡ compact_text (string (encode_of standard b))

-- the payload member is that of an event with this content, which has no fault
pub record IsCarriedBy (p : PayloadMember) (c : Content) : Type 0 where
  pub payload : IsPayloadOf c p
  pub carried : IsCarried c
  pub faultless : payload_fault (offered_of c) ≡ None

-- the kept bytes are the canonical text of an event
pub record KeepsText (e : EventValue) (kept : List ℕ) : Type 0 where
  pub event : IsEvent e
  pub is_text : kept ≡ text e

-- the event whose attributes its kept body shows, with this content
abbrev pub event_with : Body → Content → EventValue
event_with b c = view_of (attributes_in b) c

-- the event whose text and places are kept
abbrev pub event_kept : Body → Kept → EventValue
event_kept b k = event_with b (content_in (payload_in b) k)

-- an event is kept as its text, places in it, its key, its type, and the day of its time
pub record IsKept (b : Body) (c : Content) (day : Option ℤ) : Type 0 where
  pub text : KeepsText (event_with b c) (text_of b)
  pub body : IsBody b
  pub is_source : source_in b ≡ source_of (event_with b c)
  pub is_id : id_in b ≡ id_of (event_with b c)
  pub is_kind : kind_in b ≡ kind_of (event_with b c)
  pub is_payload : TellsContent (payload_in b) c
  pub is_day : day ≡ day_of (event_with b c)
