-- What the members of a batch that were read come to.
use Rattle.std.specs.Prelude.{◌≡◌, List, map, Option, Some, None, Result, Ok, Err}
use Rattle.serde_json.specs.Data.{Data}
use Rattle.attributes.specs.Event.{EventValue}
use Rattle.event_json.specs.Spelling.{event_in}
use Rattle.event_json.specs.steps.Walk.{first_bad}
use Rattle.event_json.specs.declared.fault.ReadFault.{ReadFault}
use Rattle.event_json.specs.declared.read.Outcome.{Outcome}

-- the refusal of a batch is that of the first value with a fault, and where there is none the
-- events are those of all values
abbrev pub IsReadingOutcome : Outcome → List Data → Type 0
IsReadingOutcome o ds =
    (o.refusal ≡ first_bad 0 ds) × (o.refusal ≡ None → o.events ≡ map event_in ds)

-- the events of a batch, or the refusal where there is one
abbrev pub unless_refused : Option ReadFault → List EventValue → Result (List EventValue) ReadFault
unless_refused None events = Ok events
unless_refused (Some f) events = Err f

-- what is answered for bytes that were read as a batch
abbrev pub result_of : Outcome → Result (List EventValue) ReadFault
result_of o = unless_refused o.refusal o.events

-- what is there of reading a batch, where it is no error
abbrev pub ok_of : {T E : Type 0} → Result T E → Option T
ok_of (Ok t) = Some t
ok_of (Err e) = None
