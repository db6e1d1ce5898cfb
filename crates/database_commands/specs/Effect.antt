-- What a command does to a database, where it answers and where it is refused. `old` is the
-- connection before the command and `new` the one behind it; `outcome` is what it answers or its
-- fault.
use Rattle.std.specs.Prelude.{◌≡◌, ◌≢◌, ◌⊎◌, ℕ, List, [], length, Bool, Option, unwrap_or, true, false, Result, Ok, IfErr, IfOk, IsErrOf, IsOk, IsTrue, OnErr, OnOk}
use Rattle.sqlite.specs.Effect.{Database}
use Rattle.sqlite.specs.State.{State, HasCleanDisk, Survives}
use Rattle.attributes.specs.Event.{EventValue}
use Rattle.database_layout.specs.Layout.{has_inbox, has_name}
use Rattle.inbox_table.specs.Calls.{IsTold, has_both}
use Rattle.inbox_table.specs.Rows.{IsAnyInbox}
use Rattle.outbox.specs.Call.{IsAsItWas, IsFounded, IsSettled, Leaves}
use Rattle.outbox.specs.Order.{Accepted}
use Rattle.outbox.specs.Shown.{IsNoService}
use Rattle.databases.specs.Described.{Describes}
use Rattle.databases.specs.Done.{OpenIfDone, SettledIfDone}
use Rattle.databases.specs.Fault.{IsOfOrder}
use Rattle.databases.specs.Held.{HasAnother, IsMeant, IsNoInbox, IsNoOrders, IsNoRows, IsUntold, KeepsEvents, KeepsOrTakes, KeepsRows, KeepsService, LeavesOrOrders, MayHold, MayHoldMore, Orders, RefusesOrder, ShowsAllRows, ShowsEvents, ShowsRows, TakesInto, TellsUpgrade}
use Rattle.databases.specs.Service.{HasOtherBase, LeavesOrFounds, TellsOrFounds}
use Rattle.databases.specs.Service as service
use Rattle.databases.specs.declared.fault.CommandFault.{CommandFault}
use Rattle.databases.specs.declared.fault.CommandFault.TheVariants as command

-- ---- the inbox

-- what the command `take`, given these events, does to a database, and who looks on was told
pub record TakeEffect (tells : ℕ → ℕ → Type 0) (events : List EventValue)
    (outcome : Result (List ℕ) CommandFault) (old new : State) : Type 0 where
  pub taken : HasCleanDisk new → IfOk outcome (TakesInto events old.now new.now)
  -- refused, it holds what it held; only for want of memory for the line may it have taken them
  pub left : HasCleanDisk new → IsTrue new.is_open
      → IfErr outcome (λ f. KeepsOrTakes events f old.now new.now)
  -- whatever came of it, a service has its rows
  pub beside : HasCleanDisk new → IsTrue new.is_open → KeepsRows old.now new.now
  pub told : OnOk outcome (IsTold tells (length events))
  pub upgraded : HasCleanDisk new → OnOk outcome (TellsUpgrade tells old.now)
  -- answered, a crash leaves them
  pub stays_open : HasCleanDisk new → OnOk outcome (IsTrue new.is_open)
  pub settled : HasCleanDisk new → OnOk outcome (IsSettled new)
  -- whatever came of it, no fault of the disk is forgotten, and a crash leaves what it could leave
  -- before, or the events that were held, with those that were taken or without
  pub crash : Survives old new (MayHoldMore events old.now)
  -- `Foreign` comes only of tables that aren't those of an inbox, and always where both versions
  -- are there
  pub foreign : IfErr outcome (λ f. f ≡ command.Foreign → HasCleanDisk new → IsNoInbox old.now)
  pub both : has_both old.now.schema ≡ true → IsErrOf outcome command.Foreign
  pub fault : IfErr outcome IsUntold

-- a page of a database was asked for, by the command `delta` or `scrub`
pub record PageEffect (Shows : Database → List ℕ → Type 0)
    (outcome : Result (List ℕ) CommandFault) (old new : State) : Type 0 where
  pub shown : HasCleanDisk new → IfOk outcome (Shows old.now)
  -- whatever came of it, it holds what it held, and a service has its rows
  pub list : HasCleanDisk new → IsTrue new.is_open → KeepsEvents old.now new.now
  pub beside : HasCleanDisk new → IsTrue new.is_open → KeepsRows old.now new.now
  -- answered, a crash leaves just that
  pub stays_open : HasCleanDisk new → OnOk outcome (IsTrue new.is_open)
  pub settled : HasCleanDisk new → OnOk outcome (IsSettled new)
  -- whatever came of it, no fault of the disk is forgotten, and a crash leaves what it could leave
  -- before, or the events that were held
  pub crash : Survives old new (MayHold old.now)
  -- `Foreign` comes as of `take`
  pub foreign : IfErr outcome (λ f. f ≡ command.Foreign → HasCleanDisk new → IsNoInbox old.now)
  pub both : has_both old.now.schema ≡ true → IsErrOf outcome command.Foreign
  pub fault : IfErr outcome IsUntold

-- a command only looked at a database: `summary`, or all pages of `delta` or `scrub`
pub record LookEffect {A : Type 0} (Shows : Database → A → Type 0)
    (outcome : Result A CommandFault) (old new : State) : Type 0 where
  pub shown : HasCleanDisk new → IfOk outcome (Shows old.now)
  -- whatever came of it, the database is as it was, and a crash leaves what it could leave before
  pub left : Leaves old new
  -- so it is where there is no inbox, whatever the disk does
  pub without : has_inbox old.now.schema ≡ false → new.now ≡ old.now
  -- `Foreign` comes as of `take`
  pub foreign : IfErr outcome (λ f. f ≡ command.Foreign → HasCleanDisk new → IsNoInbox old.now)
  pub both : has_both old.now.schema ≡ true → IsErrOf outcome command.Foreign
  pub fault : IfErr outcome IsUntold

-- a command asked for the events of a database
pub record HeldEffect (outcome : Result (List EventValue) CommandFault) (old new : State)
    : Type 0 where
  pub look : LookEffect ShowsEvents outcome old new
  -- where there is no inbox there are none, and nothing refuses that
  pub none : has_inbox old.now.schema ≡ false → IfOk outcome (λ es. es ≡ []) × IsOk outcome

-- a command asked what the database of this name is
pub record DescribeEffect (name : List ℕ) (outcome : Result (List ℕ) CommandFault)
    (old new : State) : Type 0 where
  pub told : HasCleanDisk new → IfOk outcome (Describes name old.now)
  -- whatever came of it, the database is as it was, and a crash leaves what it could leave before
  pub left : Leaves old new
  -- `Foreign` comes only of tables that aren't those of an inbox, or of a service
  pub foreign : IfErr outcome (λ f. f ≡ command.Foreign → HasCleanDisk new
      → ((events : List EventValue) → IsAnyInbox old.now events → ⊥) ⊎ IsNoService old.now)
  pub fault : IfErr outcome IsUntold

-- ---- the service

-- a database's service was to be told, or made with this source and base where there was none
pub record ServiceEffect (is_named : Bool) (given : List ℕ) (start : Option ℕ)
    (outcome : Result (List ℕ) CommandFault) (old new : State) : Type 0 where
  pub told : HasCleanDisk new
      → IfOk outcome (TellsOrFounds given (unwrap_or start 0) old.now new.now)
  pub stands : HasCleanDisk new → IfOk outcome (service.IsServiceTold new.now)
  pub stays_open : HasCleanDisk new → OnOk outcome (IsTrue new.is_open)
  -- where there was none, just that one was made, and a crash leaves it
  pub made : has_name old.now.schema ≡ false → HasCleanDisk new
      → OnOk outcome (IsFounded given (unwrap_or start 0) old.now new.now)
  pub settled : has_name old.now.schema ≡ false → HasCleanDisk new
      → OnOk outcome (IsSettled new)
  -- where there was one, and where it is refused, the database is as it was
  pub there : has_name old.now.schema ≡ true → IsAsItWas old new
  pub back : OnErr outcome (IsAsItWas old new)
  -- whatever came of it, no fault of the disk is forgotten
  pub clean : HasCleanDisk new → HasCleanDisk old
  pub crash : LeavesOrFounds given (unwrap_or start 0) old new
  -- what each fault comes of
  pub another : IfErr outcome (λ f. f ≡ command.AnotherSource → IsTrue is_named
      × (HasCleanDisk new → HasAnother given old.now))
  pub foreign : IfErr outcome (λ f. f ≡ command.Foreign → HasCleanDisk new
      → IsNoService old.now ⊎ HasOtherBase is_named given start old.now)
  pub fault : IfErr outcome IsNoOrders

-- a command was given to a database's service, of this source where it was named
pub record OrderEffect (is_named : Bool) (given : List ℕ) (c : Accepted)
    (outcome : Result (List ℕ) CommandFault) (old new : State) : Type 0 where
  pub ordered : HasCleanDisk new → IfOk outcome (Orders given c old.now new.now)
  -- refused, the service is as it was, made where there was none or not
  pub kept : HasCleanDisk new → IsTrue new.is_open
      → OnErr outcome (KeepsService given old.now new.now)
  -- and where another source was named, the whole database is as it was
  pub untouched : IfErr outcome (λ f. f ≡ command.AnotherSource → IsAsItWas old new)
  -- what each fault comes of
  pub refused : HasCleanDisk new → IsTrue new.is_open → IfErr outcome (λ f.
      f ≢ command.OutOfMemory → f ≢ command.Store → f ≢ command.Foreign
      → f ≢ command.AnotherSource → RefusesOrder given c.status c.order old.now f)
  pub another : IfErr outcome (λ f. f ≡ command.AnotherSource → IsTrue is_named
      × (HasCleanDisk new → HasAnother given old.now))
  pub fault : IfErr outcome IsOfOrder
  pub meant : IsTrue is_named → HasCleanDisk new → OnOk outcome (IsMeant given old.now)
  -- accepted, a crash leaves the command
  pub stays_open : HasCleanDisk new → OnOk outcome (IsTrue new.is_open)
  pub settled : HasCleanDisk new → OnOk outcome (IsSettled new)
  -- whatever came of it, the inbox has its events
  pub beside : HasCleanDisk new → IsTrue new.is_open → KeepsEvents old.now new.now
  -- and no fault of the disk is forgotten, and a crash leaves what it could leave before, or the
  -- service with the command or without
  pub clean : HasCleanDisk new → HasCleanDisk old
  pub crash : LeavesOrOrders given c old new

-- a command asked for the next rows of a database's service after a number
pub record RelayEffect (given : List ℕ) (after : ℕ) (outcome : Result (List ℕ) CommandFault)
    (old new : State) : Type 0 where
  pub shown : HasCleanDisk new → IfOk outcome (ShowsRows given after old.now)
  -- whatever came of it, the service is as it was, made where there was none or not, and the inbox
  -- has its events
  pub kept : HasCleanDisk new → IsTrue new.is_open → KeepsService given old.now new.now
  pub beside : HasCleanDisk new → IsTrue new.is_open → KeepsEvents old.now new.now
  -- answered, a crash leaves just that
  pub stays_open : HasCleanDisk new → OnOk outcome (IsTrue new.is_open)
  pub settled : HasCleanDisk new → OnOk outcome (IsSettled new)
  -- whatever came of it, no fault of the disk is forgotten, and a crash leaves what it could leave
  -- before, or that with a new service
  pub clean : HasCleanDisk new → HasCleanDisk old
  pub crash : LeavesOrFounds given 0 old new
  pub fault : IfErr outcome IsNoRows

-- a command asked for all rows of a database's service after a number
pub record RelayAllEffect (after : ℕ) (outcome : Result (List ℕ) CommandFault) (old new : State)
    : Type 0 where
  pub shown : HasCleanDisk new → IfOk outcome (ShowsAllRows after old.now)
  -- whatever came of it, the database is as it was, and a crash leaves what it could leave before
  pub left : Leaves old new
  -- where there is none, nothing is printed, and the database is as it was, whatever the disk does
  pub without : has_name old.now.schema ≡ false → (new.now ≡ old.now) × (outcome ≡ Ok [])
  -- where there is one, it was answered by the last commit, which is all that a crash leaves
  pub stays_open : has_name old.now.schema ≡ true → OpenIfDone new outcome
  pub settled : has_name old.now.schema ≡ true → SettledIfDone new outcome
  pub fault : IfErr outcome IsUntold
