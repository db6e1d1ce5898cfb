-- What a call leaves of a site over files, and what it replies.
use Rattle.std.specs.Prelude.{◌≡◌, ◌≢◌, ◌-◌, ◌⊎◌, ℕ, List, [], ◌∷◌, length, IfErr, IsTrue, MatchResult, Result}
use Rattle.sqlite_disk.specs.declared.Disk as disk
use Rattle.sqlite_wal.specs.Recovery.{Image}
use Rattle.sqlite_store.specs.declared.store.FileStore.{FileStore}
use Rattle.sqlite.specs.Held.{Held as Conn}
use Rattle.sqlite.specs.State.{State, HasCleanDisk, Survives}
use Rattle.attributes.specs.Event.{EventValue}
use Rattle.inbox_table.specs.Calls.{MayTake}
use Rattle.inbox_table.specs.declared.fault.TableFault.{TableFault}
use Rattle.inbox_table.specs.declared.fault.TableFault.TheVariants as table
use Rattle.durable_site.specs.Durable.{TakeEffectOfFile, TakesBehind, events_of}
use Rattle.durable_site.specs.Files.{IsUnopened, OpensOver, RefusesTable}
use Rattle.durable_site.specs.declared.durable.DurableSite.{DurableSite}
use Rattle.durable_site.specs.declared.fault.OpenFault.{OpenFault}
use Rattle.durable_site.specs.declared.fault.OpenFault.TheVariants as opening
use Rattle.event_files.specs.Numbers.{fault_number}
use Rattle.event_files.specs.Files.{IsRefusal, SpellAll}
use Rattle.event_files.specs.declared.refusal.Refused.{Refused}
use Rattle.library_calls.specs.Calls.{IsWant}
use Rattle.library_calls.specs.declared.calls.Reply.{Reply}

-- the status of libjumbetai's call that a refused opening of files is
abbrev pub open_status : OpenFault → ℕ
open_status opening.OutOfMemory = 1
open_status opening.System = 15
open_status opening.NoDatabase = 16
open_status opening.Damaged = 17
open_status opening.Store = 18
open_status opening.Foreign = 19

-- the status of libjumbetai's call that a refusal of the table is
abbrev pub table_status : TableFault → ℕ
table_status table.OutOfMemory = 1
table_status table.Store = 18
table_status table.Foreign = 19

-- the reply of libjumbetai's call tells of no events that were taken and of no page
abbrev pub TellsNone : Reply → Type 0
TellsNone reply = (reply.fresh ≡ 0) × (reply.repeated ≡ 0) × (reply.listed ≡ 0)

-- what files held of which no code can ask: a theorem over whatever they held is that of `open_files`
abbrev pub untold : Image
untold = record { log = []; db = [] }

-- the status of libjumbetai's call for events that are kept, by what is owed then
abbrev pub IsStatusOfOwed : ℕ → List EventValue → Type 0
IsStatusOfOwed status owed = ((status ≡ 0) × (owed ≡ [])) ⊎ ((status ≡ 20) × (owed ≢ []))

-- libjumbetai's reply to what the table came to, of so many events, after which these are owed
abbrev pub RepliesKept : ℕ → Result ℕ TableFault → List EventValue → Reply → Type 0
RepliesKept count result owed reply = MatchResult result
    (λ fresh. (reply.fresh ≡ fresh) × (reply.repeated ≡ count - fresh)
    × IsStatusOfOwed reply.status owed)
    (λ fault. (reply.status ≡ table_status fault) × (reply.fresh ≡ 0) × (reply.repeated ≡ 0))

module _ (D : Type 0) (g : disk.Ghosts D) where
  -- why no site was opened over the files, by the status: they weren't opened, or no table was found
  -- or made in them, and they are as they were; or one was, and memory ran out as its events were
  -- counted
  abbrev pub IsUnopenedFile : ℕ → Type 0
  IsUnopenedFile status =
      ((fault : OpenFault) × (status ≡ open_status fault)
      × (IsUnopened D g untold fault ⊎ RefusesTable D g untold fault))
      ⊎ (IsWant status × ((d : DurableSite (FileStore D g)) × OpensOver untold d))

module _ {D : Type 0} {g : disk.Ghosts D} where
  -- a room for such a site has none, and this is why
  abbrev pub IsUnopenedFor : {H : Type 0} → (DurableSite (FileStore D g) → H) → ℕ → Type 0
  IsUnopenedFor held status = IsUnopenedFile D g status

  -- an opening is refused
  abbrev pub RefusesFile : Result (DurableSite (FileStore D g)) ℕ → Type 0
  RefusesFile result = IfErr result (IsUnopenedFile D g)

  -- it was opened over its files, and all its events are counted
  pub record IsOpenedFile (d : DurableSite (FileStore D g)) : Type 0 where
    pub over : OpensOver untold d
    pub counted : d.owed ≡ []

-- ---- events taken

-- nothing was taken into libjumbetai's site over a table, and this is why
pub record KeepsNone {S : Type 0} (refused : Refused) (d e : DurableSite S) (reply : Reply)
    : Type 0 where
  pub same : e ≡ d
  pub status : reply.status ≡ fault_number refused.fault
  pub none : TellsNone reply
  pub events : reply.events ≡ length e.site

-- what libjumbetai's site over a table does, whatever store has it; `at` is a connection's state
module _ {S : Type 0} (at : Conn S → State) where
  -- the events of the batch are in the table, which a crash leaves so, and counted, or owed where
  -- memory ran out; or they are refused, and all is as it was
  pub record KeepsBatch (batch : List EventValue) (d e : DurableSite S) (reply : Reply) : Type 0 where
    pub result : Result ℕ TableFault
    pub takes : TakesBehind batch (events_of d) (events_of e) result
    pub effect : HasCleanDisk (at e.table.conn) → TakeEffectOfFile batch (events_of d)
        (events_of e) (at d.table.conn) (at e.table.conn) result
    -- a crash leaves none of the batch, or all
    pub crash : Survives (at d.table.conn) (at e.table.conn)
        (λ trees. IsTrue (at d.table.conn).is_open → MayTake batch (at d.table.conn).now trees)
    pub replies : RepliesKept (length batch) result e.owed reply
    pub listed : reply.listed ≡ 0
    pub events : reply.events ≡ length e.site

  -- the bytes spell events with numbers, which were kept; or they were refused
  abbrev pub KeepsBytes : List ℕ → DurableSite S → DurableSite S → Reply → Type 0
  KeepsBytes bytes d e reply =
      ((batch : List EventValue) × SpellAll (bytes ∷ []) batch × KeepsBatch batch d e reply)
      ⊎ ((refused : Refused) × IsRefusal (bytes ∷ []) refused × KeepsNone refused d e reply)
