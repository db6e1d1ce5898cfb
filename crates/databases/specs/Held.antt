-- What a database holds for a command.
use Rattle.std.specs.Prelude.{◌≡◌, ◌≢◌, ◌⊎◌, ◌+◌, ◌-◌, ◌<◌, ◌++◌, ℕ, suc, Bool, List, [], ◌∷◌, Some, None, drop, length, true, false, IsTrue}
use Rattle.sqlite_trees.specs.Tree.{Trees}
use Rattle.sqlite.specs.Effect.{Database, IsDatabase}
use Rattle.sqlite.specs.State.{State, HasCleanDisk}
use Rattle.std.specs.List.{AllByRecursion}
use Rattle.attributes.specs.Event.{EventValue}
use Rattle.attributes.specs.Sequence.{number_of}
use Rattle.inbox.specs.KeyOrder.{key_cmp}
use Rattle.inbox.specs.Ordered.{append_new}
use Rattle.inbox.specs.Sets.{set_of}
use Rattle.coverage.specs.Summary.{Sources}
use Rattle.site.specs.Delta.{delta}
use Rattle.site.specs.Page.{page}
use Rattle.coverage.specs.Digests.{Digests}
use Rattle.coverage.specs.SummaryText.{summary_text}
use Rattle.inbox_table.specs.Calls.{IsTold}
use Rattle.inbox_table.specs.Rows.{IsAnyInbox, IsInbox, IsOldInbox}
use Rattle.outbox.specs.Order.{Accepted, refusal}
use Rattle.outbox.specs.Row.{row_event, rows_after, rows_of}
use Rattle.database_layout.specs.Layout.{has_inbox, has_name}
use Rattle.outbox.specs.Service.{IsService}
use Rattle.outbox.specs.declared.fault.OutboxFault.{OutboxFault}
use Rattle.outbox.specs.declared.status.Status.{Status}
use Rattle.databases.specs.Fault.{of_outbox}
use Rattle.databases.specs.Pages.{max_page, pages_text}
use Rattle.databases.specs.Print.{batch_line, counts_line, event_line}
use Rattle.databases.specs.declared.fault.CommandFault.{CommandFault}
use Rattle.databases.specs.declared.fault.CommandFault.TheVariants as command

-- the database has an inbox with these events, of either version, or none, and then they are none
pub record Holds (db : Database) (events : List EventValue) : Type 0 where
  pub there : has_inbox db.schema ≡ true → IsAnyInbox db events
  pub none : has_inbox db.schema ≡ false → events ≡ []

-- a database's tables aren't those of an inbox, of either version
abbrev pub IsNoInbox : Database → Type 0
IsNoInbox db = (events : List EventValue) → IsAnyInbox db events → ⊥

-- whatever events the database held, it holds
abbrev pub KeepsEvents : Database → Database → Type 0
KeepsEvents old new = (held : List EventValue) → Holds old held → Holds new held

-- these are all events that the database held, in the order of their places
abbrev pub ShowsEvents : Database → List EventValue → Type 0
ShowsEvents db events = (held : List EventValue) → Holds db held → events ≡ held

-- these are all events that the database held, in key order
abbrev pub ShowsSet : Database → List EventValue → Type 0
ShowsSet db events = (held : List EventValue) → Holds db held → events ≡ set_of held

-- these are what the summary lacks of all events that the database held
abbrev pub ShowsLacking : Sources → Database → List EventValue → Type 0
ShowsLacking summary db events = (held : List EventValue) → Holds db held
    → events ≡ delta (set_of held) summary

-- a service that is there in the database is as it was
abbrev pub KeepsRows : Database → Database → Type 0
KeepsRows old new = (source : List ℕ) (base : ℕ) (commands : List Accepted)
    → IsService old source base commands → IsService new source base commands

-- these are the trees of a database that holds the events that the old one held, and beside them
-- its service
pub record MayHold (old : Database) (trees : Trees) : Type 0 where
  pub db : Database
  pub are : trees ≡ db.trees
  pub sound : IsDatabase db
  pub events : List EventValue
  pub was : Holds old events
  pub is : Holds db events
  pub beside : KeepsRows old db

-- these are the trees of a database that holds those events, or they and behind them those of L
-- that weren't there, and beside them its service
pub record MayHoldMore (L : List EventValue) (old : Database) (trees : Trees) : Type 0 where
  pub db : Database
  pub are : trees ≡ db.trees
  pub sound : IsDatabase db
  pub events : List EventValue
  pub was : Holds old events
  pub is : Holds db events ⊎ Holds db (append_new key_cmp events L)
  pub beside : KeepsRows old db

-- these are all events that the database held but the first so many, in the order they came in
abbrev pub ShowsArrived : ℕ → Database → List EventValue → Type 0
ShowsArrived after db events = (held : List EventValue) → Holds db held → events ≡ drop after held

-- the database has the events that it held and behind them those of L that weren't there, and the
-- text says how many those are
pub record IsTaken (L held : List EventValue) (new : Database) (text : List ℕ) : Type 0 where
  pub kept : IsInbox new (append_new key_cmp held L)
  pub fresh : ℕ
  pub count : length held + fresh ≡ length (append_new key_cmp held L)
  pub line : text ≡ counts_line (length L) fresh

-- whatever events the database held, it has taken those of L, and the text says how many
abbrev pub TakesInto : List EventValue → Database → Database → List ℕ → Type 0
TakesInto L old new text = (held : List EventValue) → Holds old held → IsTaken L held new text

-- whatever events the database held, it holds them, or has taken L too and the fault is want of
-- memory for the line that says so
abbrev pub KeepsOrTakes : List EventValue → CommandFault → Database → Database → Type 0
KeepsOrTakes L f old new = (held : List EventValue) → Holds old held
    → Holds new held ⊎ ((f ≡ command.OutOfMemory) × Holds new (append_new key_cmp held L))

-- the text is the batch of the page, from this place on, of what the summary lacks of all that the
-- database held
abbrev pub ShowsDelta : Sources → ℕ → Database → List ℕ → Type 0
ShowsDelta summary from db text = (held : List EventValue) → Holds db held
    → text ≡ batch_line (page (delta (set_of held) summary) from max_page)

-- the text is the batch of the page, from this place on, of all that the database held, in key
-- order
abbrev pub ShowsPage : ℕ → Database → List ℕ → Type 0
ShowsPage from db text = (held : List EventValue) → Holds db held
    → text ≡ batch_line (page (set_of held) from max_page)

-- the text is the batch of the page of all that the database held behind the first so many, in the
-- order in which they came
abbrev pub ShowsArrivals : ℕ → Database → List ℕ → Type 0
ShowsArrivals after db text = (held : List EventValue) → Holds db held
    → text ≡ batch_line (page held after max_page)

-- the text is the batch of a page of what a summary lacks of some events, as a database shows it
abbrev pub SaysDelta : Sources → ℕ → List ℕ → Type 0
SaysDelta summary from text = (events : List EventValue)
    × (text ≡ batch_line (page (delta (set_of events) summary) from max_page))

abbrev pub SaysPage : ℕ → List ℕ → Type 0
SaysPage from text = (events : List EventValue)
    × (text ≡ batch_line (page (set_of events) from max_page))

abbrev pub SaysArrivals : ℕ → List ℕ → Type 0
SaysArrivals after text = (events : List EventValue)
    × (text ≡ batch_line (page events after max_page))

-- the text is the line of the summary that digests these events of a database
abbrev pub SaysSummaryOf : List EventValue → List ℕ → Type 0
SaysSummaryOf E text = (s : Sources) × Digests E s × (text ≡ summary_text s ++ 10 ∷ [])

-- the text is the summary's line of all events that the database held
abbrev pub ShowsSummary : Database → List ℕ → Type 0
ShowsSummary db text = (held : List EventValue) → Holds db held → SaysSummaryOf (set_of held) text

-- the text is the summary's line of some events, as of a database
abbrev pub SaysSummary : List ℕ → Type 0
SaysSummary text = (events : List EventValue) × SaysSummaryOf (set_of events) text

-- these are all of some events, in key order, as a database shows them
abbrev pub HasEvents : List EventValue → Type 0
HasEvents es = (events : List EventValue) × (es ≡ set_of events)

-- these are all but the first so many of some events, as a database shows them
abbrev pub HasArrived : ℕ → List EventValue → Type 0
HasArrived after es = (events : List EventValue) × (es ≡ drop after events)

-- these are what the summary lacks of some events, as a database shows them
abbrev pub HasDelta : Sources → List EventValue → Type 0
HasDelta summary es = (events : List EventValue) × (es ≡ delta (set_of events) summary)

-- a database's service that is new has the source that is given, the base 0, and no commands
pub record IsNew (given source : List ℕ) (base : ℕ) (commands : List Accepted) : Type 0 where
  pub source_is : source ≡ given
  pub base_is : base ≡ 0
  pub none : commands ≡ []

-- the database has a service with this source and base, which accepted these commands; or it has no
-- table of a service's names, and then they are those of a service that is new
abbrev pub Serves : Database → List ℕ → List ℕ → ℕ → List Accepted → Type 0
Serves db given source base commands = IsService db source base commands
    ⊎ ((has_name db.schema ≡ false) × IsNew given source base commands)

-- this is the source and the base of the service that the database had, or would have with the
-- source that is given, and the new database is that of this service
abbrev pub IsServiceThere : List ℕ → Database → List ℕ → ℕ → Database → Type 0
IsServiceThere given old source base new = (s : List ℕ) (b : ℕ) (commands : List Accepted)
    → Serves old given s b commands → (source ≡ s) × (base ≡ b) × IsService new s b commands

-- the service that the database has, or would have, has the source that is given
abbrev pub IsMeant : List ℕ → Database → Type 0
IsMeant given db = (source : List ℕ) (base : ℕ) (commands : List Accepted)
    → Serves db given source base commands → source ≡ given

-- the database has a service with another source than the one that is given
pub record HasAnother (given : List ℕ) (db : Database) : Type 0 where
  pub source : List ℕ
  pub base : ℕ
  pub commands : List Accepted
  pub service : IsService db source base commands
  pub other : source ≢ given

-- the command's fault says that the database has no service to command, and nothing of an order
abbrev pub IsNoOrders : CommandFault → Type 0
IsNoOrders f = (f ≡ command.OutOfMemory) ⊎ ((f ≡ command.Store)
    ⊎ ((f ≡ command.Foreign) ⊎ (f ≡ command.AnotherSource)))

-- the command's fault says that nothing is told of the database
abbrev pub IsUntold : CommandFault → Type 0
IsUntold f = (f ≡ command.OutOfMemory) ⊎ ((f ≡ command.Store) ⊎ (f ≡ command.Foreign))

-- nothing is told of the rows of a database's service, or what they were sent to didn't take them
abbrev pub IsNoRows : CommandFault → Type 0
IsNoRows f = IsUntold f ⊎ (f ≡ command.RouteFailed)

-- a database's service accepted one command more, and the text is the event of its row
pub record IsOrdered (source : List ℕ) (base : ℕ) (commands : List Accepted) (c : Accepted)
    (new : Database) (text : List ℕ) : Type 0 where
  pub fits : refusal base commands c.status c.order ≡ None
  pub kept : IsService new source base (commands ++ c ∷ [])
  pub line : text ≡ event_line (row_event source (suc (base + length commands)) c)

-- the text is the event of a row with this command; where a source was named, it is that one
pub record SaysOrder (is_named : Bool) (given : List ℕ) (c : Accepted) (text : List ℕ)
    : Type 0 where
  pub source : List ℕ
  pub number : ℕ
  pub meant : IsTrue is_named → source ≡ given
  pub line : text ≡ event_line (row_event source number c)

-- whatever the database held, its service accepted the command, and the text is that event
abbrev pub Orders : List ℕ → Accepted → Database → Database → List ℕ → Type 0
Orders given c old new text = (source : List ℕ) (base : ℕ) (commands : List Accepted)
    → Serves old given source base commands → IsOrdered source base commands c new text

-- the database's service refuses to give the order the status, for this fault
abbrev pub RefusesOrder : List ℕ → Status → ℕ → Database → CommandFault → Type 0
RefusesOrder given status order db f = (source : List ℕ) (base : ℕ) (commands : List Accepted)
    → Serves db given source base commands
    → (why : OutboxFault) × (refusal base commands status order ≡ Some why) × (f ≡ of_outbox why)

-- the database's service is as it was, and made where there was none or not
abbrev pub KeepsService : List ℕ → Database → Database → Type 0
KeepsService given old new = (source : List ℕ) (base : ℕ) (commands : List Accepted)
    → Serves old given source base commands → Serves new given source base commands

-- these are the trees of a database with the service, made where there was none or not, that has
-- the command or hasn't, and the events that the old one held beside it
pub record MayOrder (given : List ℕ) (c : Accepted) (old : Database) (trees : Trees) : Type 0 where
  pub db : Database
  pub are : trees ≡ db.trees
  pub sound : IsDatabase db
  pub serves : (source : List ℕ) (base : ℕ) (commands : List Accepted)
      → Serves old given source base commands
      → IsService db source base commands ⊎ IsService db source base (commands ++ c ∷ [])
  pub beside : KeepsEvents old db

-- a crash leaves what it could leave before, or a database whose service may have the command
abbrev pub LeavesOrOrders : List ℕ → Accepted → State → State → Type 0
LeavesOrOrders given c old new = HasCleanDisk new → (db : Trees) → new.may_leave db
    → old.may_leave db ⊎ MayOrder given c old.now db

-- the text is the batch of the next rows of a database's service after a number, at most a page of
-- them, each once and in their order
abbrev pub ShowsRows : List ℕ → ℕ → Database → List ℕ → Type 0
ShowsRows given after db text = (source : List ℕ) (base : ℕ) (commands : List Accepted)
    → Serves db given source base commands
    → text ≡ batch_line (rows_after source base commands after max_page)

-- of a database's service with this source and base, these are all rows after a number
abbrev pub ForAllRows : List ℕ → ℕ → ℕ → Database → (List EventValue → Type 0) → Type 0
ForAllRows source base after db Are = (commands : List Accepted)
    → IsService db source base commands → Are (drop (after - base) (rows_of source base commands))

-- the text has all rows after a number of the service that the database has, each once and in their
-- order, a page a line
abbrev pub ShowsAllRows : ℕ → Database → List ℕ → Type 0
ShowsAllRows after db text = (source : List ℕ) (base : ℕ)
    → ForAllRows source base after db (λ rows. text ≡ pages_text rows)

-- an event of a row of a database's service has a number, which is greater than this
abbrev pub IsBehind : ℕ → EventValue → Type 0
IsBehind after e = (n : ℕ) × (number_of e ≡ Some n) × (after < n)

-- the text is the batch of events of a database's service behind this number
abbrev pub SaysRows : ℕ → List ℕ → Type 0
SaysRows after text = (events : List EventValue) × (text ≡ batch_line events)
    × AllByRecursion (IsBehind after) events

-- the text has events of a database's service behind this number, a page a line
abbrev pub SaysAllRows : ℕ → List ℕ → Type 0
SaysAllRows after text = (events : List EventValue) × (text ≡ pages_text events)
    × AllByRecursion (IsBehind after) events

-- where the database had an inbox of version 1, what looks on was told, after each thousand of its
-- events, how many of them were in the one that took its place
abbrev pub TellsUpgrade : (ℕ → ℕ → Type 0) → Database → Type 0
TellsUpgrade tells db = (events : List EventValue) → IsOldInbox db events
    → IsTold tells (length events)
