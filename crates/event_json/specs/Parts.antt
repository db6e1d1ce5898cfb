-- Parts of a batch's text, cut at commas (CloudEvents JSON Event Format 1.0.2, section 4; RFC 8259,
-- section 5).
use Rattle.std.specs.Prelude.{◌≡◌, ◌≤◌, ◌+◌, ℕ, Bool, true, false, if◌then◌else◌, List, [], ◌∷◌, ◌++◌, length, map, take, slice_get, slice_range, Some, IsUtf8}
use Rattle.serde_json.specs.Data.{Data, Items, array}
use Rattle.serde_json.specs.Read.{read}
use Rattle.array_texts.specs.Arrays.{HasItems}
use Rattle.attributes.specs.Event.{EventValue}
use Rattle.event_json.specs.Spelling.{event_in, list_of}
use Rattle.event_json.specs.Reading.{AreFaultless, Reads, max_input}

-- the bytes are the text of a JSON array of these values, one at least
pub record HoldsSome (b : List ℕ) (ds : List Data) : Type 0 where
  pub items : Items
  pub utf8 : IsUtf8 b
  pub reads : read b ≡ Some (array items)
  pub some : HasItems items
  pub are : ds ≡ list_of items

-- the bytes are the text of a JSON array of events without fault, one at least
pub record SpellsSome (b : List ℕ) (es : List EventValue) : Type 0 where
  pub members : List Data
  pub holds : HoldsSome b members
  pub faultless : AreFaultless members
  pub are_events : es ≡ map event_in members

-- the text of a JSON array of which brackets at the ends may be left to add
abbrev pub part_text : Bool → List ℕ → Bool → List ℕ
part_text opened b closed =
    (if opened then [] else 91 ∷ []) ++ (b ++ (if closed then [] else 93 ∷ []))

-- two parts of a batch that a comma joins spell the events of both
abbrev pub PartsSpellBoth : Type 0
PartsSpellBoth = (b : List ℕ) (opened closed : Bool) (i : ℕ) (l m : List EventValue)
    → slice_get b i ≡ Some 44 → SpellsSome (part_text opened (take i b) false) l
    → SpellsSome (part_text false (slice_range b (i + 1) (length b)) closed) m
    → SpellsSome (part_text opened b closed) (l ++ m)

-- a part of a batch that is the whole spells its events
abbrev pub WholesRead : Type 0
WholesRead = (b : List ℕ) (l : List EventValue) → SpellsSome (part_text true b true) l
    → length b ≤ max_input → Reads b l
