-- Which members of an input are no events with a number, and why (CloudEvents JSON Event Format
-- 1.0.2, sections 3 and 4; CloudEvents Sequence extension).
use Rattle.std.specs.Prelude.{◌≡◌, ℕ, suc, List, [], ◌∷◌, Option, Some, None}
use Rattle.std.specs.Option.{option_or}
use Rattle.serde_json.specs.Data.{Data}
use Rattle.serde_json.specs.View.{view}
use Rattle.attributes.specs.Event.{EventValue}
use Rattle.attributes.specs.Sequence.{number_of, sequence_fault}
use Rattle.attributes.specs.declared.fault.Fault.{Fault}
use Rattle.event_json.specs.Spelling.{fault_in, event_in, candidates}
use Rattle.event_json.specs.Reading.{IsTextOf, Refuses}
use Rattle.event_json.specs.declared.fault.ReadFault.{ReadFault}
use Rattle.event_json.specs.declared.fault.ReadFault.TheVariants.{BadEvent}
use Rattle.event_json.specs.declared.faulty.Faulty.{Faulty}

-- why an event read from JSON has no number, where that is the number that it has
abbrev pub fault_unless : EventValue → Option ℕ → Option Fault
fault_unless e (Some n) = None
fault_unless e None = Some (sequence_fault e)

-- why an event read from JSON has no number, where it has none
abbrev pub number_fault : EventValue → Option Fault
number_fault e = fault_unless e (number_of e)

-- the first fault of JSON that is to be an event with a number: the reader's, and only where there
-- is none that of its number
abbrev pub fault_of_numbered : Data → Option Fault
fault_of_numbered d = option_or (fault_in d) (number_fault (event_in d))

-- an input's member at fault: its place from 0, its first fault, and the JSON value that it is
pub record FaultyMember : Type 0 where
  pub index : ℕ
  pub fault : Fault
  pub tree : Data

-- what is told of an input's member at fault
abbrev pub member_of : Faulty → FaultyMember
member_of told = record { index = told.index; fault = told.fault; tree = view told.tree }

-- an input's member at its place before others, where it has a fault
abbrev pub with_fault : ℕ → Data → Option Fault → List FaultyMember → List FaultyMember
with_fault i d None others = others
with_fault i d (Some f) others = record { index = i; fault = f; tree = d } ∷ others

-- those of an input's members that have a fault, in their order, where the first of all stands at i
abbrev pub faulty : ℕ → List Data → List FaultyMember
faulty i [] = []
faulty i (d ∷ ds) = with_fault i d (fault_of_numbered d) (faulty (suc i) ds)

-- the bytes are the JSON text of an object, or of an array, and these are the faulty ones of it, or
-- of its members
pub record TellsFaulty (b : List ℕ) (told : List FaultyMember) : Type 0 where
  pub value : Data
  pub is_text : IsTextOf b value
  pub found : List Data
  pub are_found : candidates value ≡ Some found
  pub are_faulty : told ≡ faulty 0 found

-- when bytes of JSON are refused as a whole; no fault of a member is a reason
abbrev pub RefusesWhole : List ℕ → ReadFault → Type 0
RefusesWhole b (BadEvent i f) = ⊥
RefusesWhole b f = Refuses b f
