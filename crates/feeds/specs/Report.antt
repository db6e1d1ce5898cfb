-- What a report tells of the calls that a worker made.
use Rattle.std.specs.Prelude.{◌≡◌, ◌≢◌, ◌⊎◌, ◌+◌, ◌-◌, ◌≤◌, ℕ, Bool, not, is_some, filter}
use Rattle.std.specs.Prelude.{List, [], ◌∷◌, ◌++◌, length, Option, None, Some}
use Rattle.std.specs.List.{AllByRecursion}
use Rattle.attributes.specs.Event.{EventValue}
use Rattle.attributes.specs.Sequence.{number_of}
use Rattle.event_json.specs.Reading.{Reads, Refuses}
use Rattle.event_json.specs.declared.fault.ReadFault.{ReadFault}
use Rattle.event_json.specs.declared.fault.ReadFault.TheVariants as read
use Rattle.site.specs.Machine.{handled_by}
use Rattle.site.specs.Page.{max_page}
use Rattle.site.specs.declared.call.Call.{Call}
use Rattle.site.specs.declared.call.Command.{Command}
use Rattle.site.specs.declared.call.Command.TheVariants as command
use Rattle.site.specs.declared.call.Reply.{Reply}
use Rattle.site.specs.declared.call.Reply.TheVariants.{Refused, Took}
use Rattle.feeds.specs.declared.report.WorkerEnd.{WorkerEnd}
use Rattle.feeds.specs.declared.report.WorkerEnd.TheVariants.{BadInput, Done, GateShut, OutOfMemory}
use Rattle.feeds.specs.declared.report.Report.{Report}
use Rattle.feeds.specs.declared.report.Tally.{Tally}

-- whether an event that a worker reads has a valid number
abbrev pub is_with_number : EventValue → Bool
is_with_number e = is_some (number_of e)

-- the events of a worker's input that have a number
abbrev pub sequenced : List EventValue → List EventValue
sequenced L = filter is_with_number L

-- the events of a worker's input that have no number
abbrev pub unsequenced : List EventValue → List EventValue
unsequenced L = filter (λ e. not (is_with_number e)) L

-- the events that a worker's calls handled, in their order
abbrev pub handled : List Call → List EventValue
handled [] = []
handled (c ∷ cs) = handled_by c.command c.reply ++ handled cs

-- how many events were new by a reply to a worker, and how many were there
abbrev pub fresh_by : Reply → ℕ
fresh_by (Took fresh repeated) = fresh
fresh_by (Refused taken fresh) = fresh
fresh_by _ = 0

abbrev pub repeated_by : Reply → ℕ
repeated_by (Took fresh repeated) = repeated
repeated_by (Refused taken fresh) = taken - fresh
repeated_by _ = 0

-- the sums over a worker's calls of the events that were new, and of those that were there
abbrev pub fresh_of : List Call → ℕ
fresh_of [] = 0
fresh_of (c ∷ cs) = fresh_by c.reply + fresh_of cs

abbrev pub repeated_of : List Call → ℕ
repeated_of [] = 0
repeated_of (c ∷ cs) = repeated_by c.reply + repeated_of cs

-- the worker's command hands a batch to the desk, of at most a page of events
abbrev pub IsTake : Command → Type 0
IsTake (command.Take L) = length L ≤ max_page
IsTake _ = ⊥

abbrev pub AreTakes : List Call → Type 0
AreTakes [] = Unit {0}
AreTakes (c ∷ cs) = IsTake c.command × AreTakes cs

-- the worker's calls are takes, which handled the first of these events, in their order
pub record Handles (m : List Call) (events : List EventValue) : Type 0 where
  pub takes : AreTakes m
  pub rest : List EventValue
  pub order : handled m ++ rest ≡ events

-- the worker's report counts the events that its calls handled
pub record CountsHandled (m : List Call) (r : Report) : Type 0 where
  pub fresh : r.fresh ≡ fresh_of m
  pub repeated : r.repeated ≡ repeated_of m
  pub handled : r.fresh + r.repeated ≡ length (handled m)
  pub read : r.read ≡ r.fresh + r.repeated + r.refused

-- a worker ends so before it is done: memory was wanted, or the gate was shut
abbrev pub EndsEarly : WorkerEnd → Type 0
EndsEarly OutOfMemory = Unit {0}
EndsEarly GateShut = Unit {0}
EndsEarly Done = ⊥
EndsEarly (BadInput fault) = ⊥

-- the reply says that the worker's call was refused, for want of memory
abbrev pub IsRefusedReply : Reply → Type 0
IsRefusedReply (Refused taken fresh) = Unit {0}
IsRefusedReply _ = ⊥

-- none of the worker's calls was refused
abbrev pub AreAnswered : List Call → Type 0
AreAnswered m = AllByRecursion (λ c. IsRefusedReply c.reply → ⊥) m

-- the last of the worker's calls was refused, and no other
pub record EndsRefused (m : List Call) : Type 0 where
  pub before : List Call
  pub last : Call
  pub calls : m ≡ before ++ last ∷ []
  pub answered : AreAnswered before
  pub refused : IsRefusedReply last.reply

-- no call of a worker that ended so was refused, or the last alone, and that is why it ended
abbrev pub HasCause : List Call → WorkerEnd → Type 0
HasCause m ended = AreAnswered m ⊎ (EndsRefused m × (ended ≡ OutOfMemory))

-- of a worker that ended, if it did: no call was refused, or the last alone, and that is why
abbrev pub HasCauseIf : List Call → Option WorkerEnd → Type 0
HasCauseIf m None = AreAnswered m
HasCauseIf m (Some ended) = HasCause m ended

-- the report of a worker that brought these events by these calls: it read the first of them,
-- passed over those without a number, and handed over the others as far as it came; all of them,
-- where it was done
pub record TellsReport (events : List EventValue) (m : List Call) (r : Report) : Type 0 where
  pub passed : List EventValue
  pub behind : List EventValue
  pub split : passed ++ behind ≡ events
  pub handles : Handles m (sequenced passed)
  pub counts : CountsHandled m r
  pub refused : r.refused ≡ length (unsequenced passed)
  pub most : r.read ≤ length events
  pub ended : (r.ended ≡ Done) ⊎ EndsEarly r.ended
  pub cause : HasCause m r.ended
  pub done : r.ended ≡ Done → (handled m ≡ sequenced events) × (r.read ≡ length events)

-- the worker's report with these counts
abbrev pub reported : Tally → WorkerEnd → Report
reported t ended = record {
  read = t.fresh + t.repeated + t.refused;
  fresh = t.fresh;
  repeated = t.repeated;
  refused = t.refused;
  ended = ended;
}

-- how a worker ends whose input was not read
abbrev pub end_if_unread : ReadFault → WorkerEnd
end_if_unread read.OutOfMemory = OutOfMemory
end_if_unread fault = BadInput fault

-- the report of a worker whose input was not read
abbrev pub unread : ReadFault → Report
unread fault = record { read = 0; fresh = 0; repeated = 0; refused = 0; ended = end_if_unread fault }

-- the report of a worker that was to bring the events that bytes spell: where they were read, that
-- of these events; else it made no call, and tells why, which is want of memory or a refusal of the
-- bytes
abbrev pub Feeds : List ℕ → List Call → Report → Type 0
Feeds b m r = ((events : List EventValue) × Reads b events × TellsReport events m r)
    ⊎ ((m ≡ []) × ((fault : ReadFault) × (r ≡ unread fault)
    × (fault ≢ read.OutOfMemory → Refuses b fault)))
