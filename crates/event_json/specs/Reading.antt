-- Which events bytes spell, and why they spell none (CloudEvents JSON Event Format 1.0.2, sections
-- 3 and 4; RFC 8259).
use Rattle.std.specs.Prelude.{◌≡◌, ◌<◌, ◌≤◌, ℕ, List, length, map, take, Some, None, option_and_then, slice_get}
use Rattle.std.specs.List.{AllByRecursion}
use Rattle.serde_json.specs.Data.{Data}
use Rattle.attributes.specs.Event.{EventValue}
use Rattle.attributes.specs.JsonText.{IsJsonText}
use Rattle.attributes.specs.declared.fault.Fault.{Fault}
use Rattle.event_json.specs.Spelling.{fault_in, event_in, candidates}
use Rattle.event_json.specs.declared.fault.ReadFault.{ReadFault}
use Rattle.event_json.specs.declared.fault.ReadFault.TheVariants.{OutOfMemory, NotJson, NotEvent, BadEvent, InputTooLarge}

-- none of the JSON values that are to be events has a fault
abbrev pub AreFaultless : List Data → Type 0
AreFaultless ds = AllByRecursion (λ d. fault_in d ≡ None) ds

-- the JSON value is an object or an array of objects, none with a fault, and these are their events
pub record Spells (value : Data) (es : List EventValue) : Type 0 where
  pub found : List Data
  pub are_found : candidates value ≡ Some found
  pub faultless : AreFaultless found
  pub are_events : es ≡ map event_in found

-- the JSON value at i, from 0, is the first that has a fault, and f is its first fault
pub record IsBadAt (value : Data) (i : ℕ) (f : Fault) : Type 0 where
  pub found : List Data
  pub are_found : candidates value ≡ Some found
  pub before : AreFaultless (take i found)
  pub at : option_and_then fault_in (slice_get found i) ≡ Some f

-- why a JSON value spells no events
abbrev pub IsNoSpelling : Data → ReadFault → Type 0
IsNoSpelling value NotEvent = candidates value ≡ None
IsNoSpelling value (BadEvent i f) = IsBadAt value i f
IsNoSpelling value _ = ⊥

-- the greatest length of an input of JSON events, in bytes
abbrev pub max_input : ℕ
max_input = 33554432

-- bytes within the limit of inputs that are the JSON text of a value
pub record IsTextOf (b : List ℕ) (value : Data) : Type 0 where
  pub fits : length b ≤ max_input
  pub is_json : IsJsonText b value

-- the bytes of JSON spell these events
pub record Reads (b : List ℕ) (es : List EventValue) : Type 0 where
  pub value : Data
  pub is_text : IsTextOf b value
  pub spells : Spells value es

-- bytes within the limit of inputs that are no JSON text
abbrev pub IsNotJson : List ℕ → Type 0
IsNotJson b = (length b ≤ max_input) × ((value : Data) → IsTextOf b value → ⊥)

-- the JSON text of a value that spells no events, for this reason
abbrev pub HasNoSpelling : List ℕ → ReadFault → Type 0
HasNoSpelling b f = (value : Data) × IsTextOf b value × IsNoSpelling value f

-- when each refusal to read JSON into events comes; want of memory says nothing of the bytes
abbrev pub Refuses : List ℕ → ReadFault → Type 0
Refuses b OutOfMemory = ⊥
Refuses b NotJson = IsNotJson b
Refuses b NotEvent = HasNoSpelling b NotEvent
Refuses b (BadEvent i f) = HasNoSpelling b (BadEvent i f)
Refuses b InputTooLarge = max_input < length b
