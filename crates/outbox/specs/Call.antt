-- What the calls of a service do.
use Rattle.std.specs.Prelude.{◌≡◌, ◌≢◌, ◌⊎◌, ◌<◌, ◌≤◌, ℕ, suc, ◌+◌, List, [], ◌∷◌, ◌++◌, length, Some, None, Result, IfErr, IfOk, IsTrue, OnErr, OnOk}
use Rattle.sqlite_trees.specs.Tree.{Trees}
use Rattle.sqlite_trees.specs.View.{doubt}
use Rattle.sqlite.specs.Effect.{Database, IsDatabase}
use Rattle.sqlite.specs.State.{State, HasCleanDisk, Survives}
use Rattle.attributes.specs.Event.{EventValue}
use Rattle.attributes.specs.Sequence.{max_sequence}
use Rattle.database_layout.specs.Beside.{GainsTables, KeepsBeside}
use Rattle.outbox.specs.Order.{Accepted, refusal}
use Rattle.outbox.specs.Row.{row_event, rows_after}
use Rattle.outbox.specs.Service.{IsService}
use Rattle.outbox.specs.Layout.{ServiceLayout, schema_in_layout}
use Rattle.outbox.specs.Shown.{Shown}
use Rattle.outbox.specs.declared.fault.OutboxFault.TheVariants.{Foreign, OutOfMemory, Store}
use Rattle.outbox.specs.declared.status.Status.{Status}
use Rattle.outbox.specs.declared.fault.OutboxFault.{OutboxFault}
pub use Rattle.database_layout.specs.States.{IsAsItWas, IsSettled}

-- a service with this source and base accepted the command on an order: nothing refused it, it is
-- now the outbox's last one, and the event is that of its row
abbrev pub Accepts : List ℕ → ℕ → Accepted → Database → Database → EventValue → Type 0
Accepts source base c old new e = (commands : List Accepted) → IsService old source base commands
    → (refusal base commands c.status c.order ≡ None)
    × IsService new source base (commands ++ c ∷ [])
    × (e ≡ row_event source (suc (base + length commands)) c)

-- an outbox's service with this source and base refuses the command for this fault
abbrev pub RefusesCommand : List ℕ → ℕ → Status → ℕ → Database → OutboxFault → Type 0
RefusesCommand source base status order db f = (commands : List Accepted)
    → IsService db source base commands → refusal base commands status order ≡ Some f

-- these are the outbox's rows after a number, of a service with this source and base
abbrev pub ShowsAfter : List ℕ → ℕ → ℕ → ℕ → Database → List EventValue → Type 0
ShowsAfter source base number limit db events = (commands : List Accepted)
    → IsService db source base commands → events ≡ rows_after source base commands number limit

-- a reading of an outbox: no fault is forgotten, only an open database is open after it, and, while
-- the disk is honest and the database open, that of a service is as it was
pub record IsServiceReading (old new : State) : Type 0 where
  pub clean : doubt old.is_clean ≤ doubt new.is_clean
  pub was_open : HasCleanDisk new → IsTrue new.is_open → IsTrue old.is_open
  pub same : HasCleanDisk new → IsTrue new.is_open → (layout : ServiceLayout)
      → old.now.schema ≡ schema_in_layout layout
      → (new.now ≡ old.now) × (new.committed ≡ old.committed)

-- where the tables are those of a service's outbox, a crash leaves what it could leave before,
-- whether the call was refused or not
abbrev pub LeavesAsBefore : State → State → Type 0
LeavesAsBefore old new = HasCleanDisk new → (layout : ServiceLayout)
    → old.now.schema ≡ schema_in_layout layout → (db : Trees) → new.may_leave db → old.may_leave db

-- a call of an outbox: no fault of the disk is forgotten, and while it is honest the database is as
-- it was, and a crash leaves what it could leave before
pub record Leaves (old new : State) : Type 0 where
  pub clean : doubt old.is_clean ≤ doubt new.is_clean
  pub same : HasCleanDisk new → IsTrue new.is_open → new.now ≡ old.now
  pub crash : HasCleanDisk new → (db : Trees) → new.may_leave db → old.may_leave db

-- an outbox's service without commands was made in the database, beside what was there
pub record IsFounded (source : List ℕ) (base : ℕ) (old new : Database) : Type 0 where
  pub service : IsService new source base []
  pub gains : GainsTables old new

-- these are the trees of a database in which an outbox's service was made
pub record MayFound (source : List ℕ) (base : ℕ) (old : Database) (trees : Trees) : Type 0 where
  pub db : Database
  pub are : trees ≡ db.trees
  pub sound : IsDatabase db
  pub founded : IsFounded source base old db

-- these are the trees of a database whose outbox has the command too, the inbox beside it as it was
pub record MayAccept (source : List ℕ) (base : ℕ) (c : Accepted) (old : Database) (trees : Trees)
    : Type 0 where
  pub db : Database
  pub are : trees ≡ db.trees
  pub sound : IsDatabase db
  pub beside : KeepsBeside old db
  pub service : (commands : List Accepted) → IsService old source base commands
      → IsService db source base (commands ++ c ∷ [])

-- a command was given to an outbox's service: what its value shows then
pub record CommandCall {S : Type 0} (c : Accepted) (was is : Shown S)
    (result : Result EventValue OutboxFault) : Type 0 where
  -- source and base never change
  pub kept : (is.source ≡ was.source) × (is.base ≡ was.base)
  -- accepted, it is the row behind the last, and the answer is the event of that row
  pub next : IfOk result (λ e. (was.last < max_sequence)
      × (e ≡ row_event was.source (suc was.last) c))
  pub counted : IfOk result (λ _. is.last ≡ suc was.last)
  -- refused, there are as many rows as before; `Foreign` is no refusal of a command
  pub back : OnErr result (is.last ≡ was.last)
  pub fault : IfErr result (λ f. f ≢ Foreign)

-- what a command to an outbox does to the database, while the disk gives back what was written
pub record CommandEffect {S : Type 0} (c : Accepted) (was : Shown S) (old new : State)
    (result : Result EventValue OutboxFault) : Type 0 where
  pub clean : HasCleanDisk old
  -- accepted: nothing refused it, it is now the last one, and a crash leaves it
  pub accepted : IfOk result (Accepts was.source was.base c old.now new.now)
  pub beside : OnOk result (KeepsBeside old.now new.now)
  pub stays_open : OnOk result (IsTrue new.is_open)
  pub settled : OnOk result (IsSettled new)
  -- refused: the fault is that of the definition, want of memory or the store's, and the database
  -- is as it was
  pub refused : IsTrue new.is_open → IfErr result (λ f. f ≢ OutOfMemory → f ≢ Store
      → RefusesCommand was.source was.base c.status c.order old.now f)
  pub same : IsTrue new.is_open → OnErr result (new.now ≡ old.now)
  -- at whichever exit, a crash leaves what it could leave before, or the command accepted
  pub crash : IsTrue old.is_open → (db : Trees) → new.may_leave db
      → old.may_leave db ⊎ MayAccept was.source was.base c old.now db

-- where a call of the outbox was done, the database was open, and is
abbrev pub OpenThroughout : {A E : Type 0} → State → State → Result A E → Type 0
OpenThroughout old new result = HasCleanDisk new
    → OnOk result (IsTrue old.is_open × IsTrue new.is_open)

-- where it was done, a service with an outbox was founded
abbrev pub FoundsIfDone : {A E : Type 0} → List ℕ → ℕ → State → State → Result A E → Type 0
FoundsIfDone source base old new result = HasCleanDisk new
    → OnOk result (IsFounded source base old.now new.now)

-- what a crash may leave of a founding of an outbox's service
abbrev pub LeavesFounding : List ℕ → ℕ → State → State → Type 0
LeavesFounding source base old new = Survives old new (MayFound source base old.now)
