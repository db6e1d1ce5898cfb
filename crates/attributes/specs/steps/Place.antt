-- Where the names and values of attributes stand in a text.
use Rattle.std.specs.Prelude.{◌≡◌, ◌≤◌, ◌<◌, ℕ, ◌+◌, ◌-◌, List, [], ◌∷◌, ◌++◌, Bool, false, drop, take, length, slice_index, string_bytes, ⊤}
use Rattle.std.specs.List.{slice_range}
use Rattle.std.specs.Str.{IsUtf8}
use Rattle.attributes.specs.declared.body.Span.{Span}
use Rattle.attributes.specs.declared.body.Stretch.{Stretch}
use Rattle.attributes.specs.declared.body.Kind.{Kind}
use Rattle.attributes.specs.declared.body.Kind.TheVariants as kind
use Rattle.attributes.specs.declared.body.Place.{Place}
use Rattle.attributes.specs.declared.body.Draft.{Draft}
use Rattle.attributes.specs.declared.body.Body.{Body}
use Rattle.attributes.specs.declared.scalar.Scalar.{Scalar}
use Rattle.attributes.specs.declared.scalar.Scalar.TheVariants as scalar

-- the text that stands at a span of an event's kept string
abbrev pub in_span : List ℕ → Span → List ℕ
in_span text s = slice_range text s.start s.end

-- the span stands in an event's text, between quotation marks
pub record IsSpan (text : List ℕ) (s : Span) : Type 0 where
  pub after_mark : 1 ≤ s.start
  pub forward : s.start ≤ s.end
  pub within : s.end < length text
  pub mark_before : slice_index text (s.start - 1) ≡ 34
  pub mark_behind : slice_index text s.end ≡ 34

-- where an attribute's value stands whose name stands there: behind the name, `":"`
abbrev pub behind : Span → ℕ → Span
behind name end = record { start = name.end + 3; end = end }

-- an attribute's name at a span of the text, or aside of it
abbrev pub name_at_span : List ℕ → List ℕ → Span → Kind → List ℕ
name_at_span text aside name (kind.Escaped end) = in_span aside name
name_at_span text aside name _ = in_span text name

-- an attribute's value, lent where it is a text
abbrev pub value_of : List ℕ → List ℕ → Span → Kind → Scalar
value_of text aside name (kind.Flag b) = scalar.Flag b
value_of text aside name (kind.Whole z) = scalar.Whole z
value_of text aside name (kind.Words end) = scalar.Words (in_span text (behind name end))
value_of text aside name (kind.Escaped end) = scalar.Words (in_span aside (behind name end))

-- an attribute's name, and the value where it is a text, stand in the text or aside of it
abbrev pub StandsInText : List ℕ → List ℕ → Span → Kind → Type 0
StandsInText text aside name (kind.Flag b) = IsSpan text name
StandsInText text aside name (kind.Whole z) = IsSpan text name
StandsInText text aside name (kind.Words end) = IsSpan text name × IsSpan text (behind name end)
StandsInText text aside name (kind.Escaped end) = IsSpan aside name × IsSpan aside (behind name end)

-- the attribute's name of a place
abbrev pub place_name : List ℕ → List ℕ → Place → List ℕ
place_name text aside p = name_at_span text aside p.name p.value

-- the attribute's value of a place
abbrev pub place_value : List ℕ → List ℕ → Place → Scalar
place_value text aside p = value_of text aside p.name p.value

-- an attribute's place stands in the event's text or aside of it
abbrev pub IsPlace : List ℕ → List ℕ → Place → Type 0
IsPlace text aside p = StandsInText text aside p.name p.value

-- the attributes of an event by their places in its text
abbrev pub shown : List ℕ → List ℕ → List Place → List (List ℕ × Scalar)
shown text aside [] = []
shown text aside (p ∷ ps) =
    (place_name text aside p, place_value text aside p) ∷ shown text aside ps

-- each attribute's place stands in the event's text or aside of it
abbrev pub ArePlaces : List ℕ → List ℕ → List Place → Type 0
ArePlaces text aside [] = ⊤
ArePlaces text aside (p ∷ ps) = IsPlace text aside p × ArePlaces text aside ps

-- the part of an event's text
abbrev pub in_stretch : List ℕ → Stretch → List ℕ
in_stretch text s = slice_range text s.start s.end

-- an attribute's words stand there in the text, behind one text and before another
pub record StandsIn (text : List ℕ) (s : Stretch) (words : List ℕ) : Type 0 where
  pub before : List ℕ
  pub rest : List ℕ
  pub is_text : text ≡ before ++ (words ++ rest)
  pub starts : s.start ≡ length before
  pub ends : s.end ≡ length before + length words
  pub is_before : IsUtf8 before
  pub is_words : IsUtf8 words

-- ---- a text as it is written

-- the attributes of an event's draft, whose places are known
abbrev pub drafted : Draft → List (List ℕ × Scalar)
drafted d = shown (string_bytes d.text) (string_bytes d.aside) d.places.items

-- the attributes of an event's draft, and their places stand
abbrev pub HasPlaces : Draft → Type 0
HasPlaces d = ArePlaces (string_bytes d.text) (string_bytes d.aside) d.places.items

-- unless it still waits, the payload's text stands where an event's draft says
abbrev pub HoldsPayload : Bool → List ℕ → Draft → Type 0
HoldsPayload waiting json d = waiting ≡ false → StandsIn (string_bytes d.text) d.payload json

-- ---- what an event keeps

-- the canonical text of an event's kept string
abbrev pub text_of : Body → List ℕ
text_of b = take b.text_end (string_bytes b.all)

-- what stands behind the canonical text in an event's kept string
abbrev pub aside_of : Body → List ℕ
aside_of b = drop b.text_end (string_bytes b.all)

-- the id stands in an event's key behind the source, up to the last mark
abbrev pub id_span : List ℕ → Span → Span
id_span all source = record { start = source.end + 1; end = length all - 1 }

-- the source of an event's key
abbrev pub source_in : Body → List ℕ
source_in b = in_span (string_bytes b.all) b.source

-- the id of an event's key
abbrev pub id_in : Body → List ℕ
id_in b = in_span (string_bytes b.all) (id_span (string_bytes b.all) b.source)

-- an event's type, in the canonical text or aside of it
abbrev pub kind_in : Body → List ℕ
kind_in b = in_span (string_bytes b.all) b.kind

-- an event's attributes whose places are kept
abbrev pub attributes_in : Body → List (List ℕ × Scalar)
attributes_in b = shown (text_of b) (aside_of b) b.places.items

-- the text of an event's payload
abbrev pub payload_in : Body → List ℕ
payload_in b = in_stretch (text_of b) b.payload

-- an event's text that ends with a bracket ends there
pub record EndsAt (all : List ℕ) (end : ℕ) : Type 0 where
  pub some : 1 ≤ end
  pub within : end ≤ length all
  pub bracket : slice_index all (end - 1) ≡ 125

-- the parts of an event's kept string stand where the body says
pub record IsBody (b : Body) : Type 0 where
  pub ends : EndsAt (string_bytes b.all) b.text_end
  pub places : ArePlaces (text_of b) (aside_of b) b.places.items
  pub payload : StandsIn (text_of b) b.payload (payload_in b)
  pub source : IsSpan (string_bytes b.all) b.source
  pub id : IsSpan (string_bytes b.all) (id_span (string_bytes b.all) b.source)
  pub kind : IsSpan (string_bytes b.all) b.kind
