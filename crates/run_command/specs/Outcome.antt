-- What a run leaves, whatever it came to.
use Rattle.std.specs.Prelude.{◌≡◌, ◌⊎◌, ℕ, true, List, [], ◌∷◌, ◌++◌, length, take, Option, None, Some, Result, Ok, Err, IfOk, IsOk, IsTrue}
use Rattle.std.specs.Option.{option_or}
use Rattle.sqlite_trees.specs.Tree.{Trees}
use Rattle.sqlite.specs.Effect.{Database, IsDatabase}
use Rattle.sqlite.specs.State.{State, HasCleanDisk}
use Rattle.attributes.specs.Event.{EventValue}
use Rattle.inbox_table.specs.Calls.{IsSettled, has_both}
use Rattle.inbox_table.specs.Rows.{IsInbox}
use Rattle.databases.specs.Held as database
use Rattle.databases.specs.declared.fault.CommandFault.{CommandFault}
use Rattle.databases.specs.declared.fault.CommandFault.TheVariants.{Foreign, OutOfMemory}
use Rattle.feeds.specs.declared.report.Report.{Report}
use Rattle.feeds.specs.declared.serving.ServeFault.{ServeFault}
use Rattle.keeper.specs.declared.fault.KeepFault.{KeepFault}
use Rattle.run_command.specs.Fault.{of_keep, of_serve}
use Rattle.run_command.specs.Peer.{ArePulled, IsPull}
use Rattle.run_command.specs.Run.{IsFed, IsRunText}
use Rattle.run_command.specs.Tally.{first_fault, read_in, refused_in}
use Rattle.run_command.specs.declared.fault.RunFault.{RunFault}
use Rattle.run_command.specs.declared.fault.RunFault.TheVariants as run

-- the reports are those of a run's feeds and then of its peers, one for each, in their order: all
-- that they handed over is among what the inbox held and what came
abbrev pub AreReports : List EventValue → List EventValue → List (List ℕ)
    → List (List EventValue) → List Report → Type 0
AreReports held more [] [] [] = Unit {0}
AreReports held more [] [] (r ∷ rs) = ⊥
AreReports held more [] (p ∷ ps) [] = ⊥
AreReports held more [] (p ∷ ps) (r ∷ rs) =
    IsPull held more p r × AreReports held more [] ps rs
AreReports held more (b ∷ bs) peers [] = ⊥
AreReports held more (b ∷ bs) peers (r ∷ rs) =
    IsFed (held ++ more) b r × AreReports held more bs peers rs

-- the fault of keeping, if there is one, as one of a run
abbrev pub keeping_fault : Option KeepFault → Option RunFault
keeping_fault None = None
keeping_fault (Some fault) = Some (of_keep fault)

-- the fault that a run tells: that of the workers as a whole, else the first worker's, of which so
-- many are feeds, else that of keeping
abbrev pub fault_of_run : ℕ → Result (List Report) ServeFault → Option KeepFault → Option RunFault
fault_of_run feeds (Err fault) stopped = Some (of_serve fault)
fault_of_run feeds (Ok rs) stopped = option_or (first_fault 0 feeds rs) (keeping_fault stopped)

-- the reports of a run's workers, none where there are none
abbrev pub reports_if_served : Result (List Report) ServeFault → List Report
reports_if_served (Ok rs) = rs
reports_if_served (Err fault) = []

-- a run's outcome is the fault, where there is one; else the text that counts what the first so
-- many reports read, over these arrivals, or want of memory for it
abbrev pub TellsRun : ℕ → List Report → List EventValue → Option RunFault
    → Result (List ℕ) RunFault → Type 0
TellsRun feeds rs arrivals (Some fault) outcome = outcome ≡ Err fault
TellsRun feeds rs arrivals None (Ok text) =
    IsRunText (read_in (take feeds rs)) (refused_in (take feeds rs)) arrivals text
TellsRun feeds rs arrivals None (Err why) = why ≡ run.Database OutOfMemory

-- after a run the inbox has what was held, and behind it the first so many of these or none
abbrev pub HasFrom : Database → List EventValue → List EventValue → Type 0
HasFrom db held more = (n : ℕ) × IsInbox db (held ++ take n more)

-- what a run leaves that was begun over an inbox with these events
pub record HasRun (feeds : List (List ℕ)) (peers : List (List EventValue))
    (held : List EventValue) (new : State) (stopped : Option KeepFault)
    (outcome : Result (List ℕ) RunFault) : Type 0 where
  -- what came to them
  pub more : List EventValue
  -- what the workers reported, or why nothing was reported
  pub workers : Result (List Report) ServeFault
  pub reports : IfOk workers (AreReports held more feeds peers)
  -- the first fault is told, or there is none
  pub told : TellsRun (length feeds) (reports_if_served workers) (held ++ more)
      (fault_of_run (length feeds) workers stopped) outcome
  -- where there is a text, each peer brought what it was to bring
  pub pulled : IfOk outcome (λ _. ArePulled held more peers)
  -- whatever the fault, the inbox has what it held and the first of what came
  pub kept : HasCleanDisk new → IsTrue new.is_open → HasFrom new.now held more
  -- it has all, where the workers reported and keeping wasn't stopped, whatever they reported; and
  -- a crash leaves just that
  pub all : HasCleanDisk new → IsOk workers → stopped ≡ None → IsInbox new.now (held ++ more)
  pub settled : HasCleanDisk new → IsOk workers → stopped ≡ None → IsSettled new

-- what a run leaves that wasn't begun: the events that were held
pub record IsRunUnbegun (old new : State) (stopped : Option KeepFault)
    (outcome : Result (List ℕ) RunFault) : Type 0 where
  pub why : CommandFault
  pub told : outcome ≡ Err (run.Database why)
  pub unstopped : stopped ≡ None
  pub same : HasCleanDisk new → IsTrue new.is_open → database.KeepsEvents old.now new.now
  -- `Foreign` comes only of tables that aren't those of an inbox, and always where both versions
  -- are there
  pub foreign : why ≡ Foreign → HasCleanDisk new → database.IsNoInbox old.now
  pub both : has_both old.now.schema ≡ true → why ≡ Foreign

-- these are the events that the database held before the run
abbrev pub WasHeld : Database → List EventValue → Type 0
WasHeld db held = (events : List EventValue) → database.Holds db events → held ≡ events

-- what a run leaves: it wasn't begun, or was begun over the events that the database held
abbrev pub RunsTo : List (List ℕ) → List (List EventValue) → State → State → Option KeepFault
    → Result (List ℕ) RunFault → Type 0
RunsTo feeds peers old new stopped outcome = IsRunUnbegun old new stopped outcome
    ⊎ ((held : List EventValue) × (HasCleanDisk new → WasHeld old.now held)
    × HasRun feeds peers held new stopped outcome)

-- what a run tells that was begun, over whatever events the inbox held: the first fault, in the
-- order of the workers as a whole, each worker and keeping; or, where there is none, the text, and
-- then each peer brought what it was to bring
pub record IsToldBy (feeds : List (List ℕ)) (peers : List (List EventValue))
    (outcome : Result (List ℕ) RunFault) : Type 0 where
  pub held : List EventValue
  pub more : List EventValue
  pub workers : Result (List Report) ServeFault
  pub stopped : Option KeepFault
  pub reports : IfOk workers (AreReports held more feeds peers)
  pub told : TellsRun (length feeds) (reports_if_served workers) (held ++ more)
      (fault_of_run (length feeds) workers stopped) outcome
  pub pulled : IfOk outcome (λ _. ArePulled held more peers)

-- what a run tells: it wasn't begun, for a fault of the database, or was begun
abbrev pub IsOutcome : List (List ℕ) → List (List EventValue) → Result (List ℕ) RunFault → Type 0
IsOutcome feeds peers outcome = ((why : CommandFault) × (outcome ≡ Err (run.Database why)))
    ⊎ IsToldBy feeds peers outcome

-- these are the trees of a database after a run: it holds the events that the old one held, and
-- behind them more or nothing
pub record MayRun (old : Database) (trees : Trees) : Type 0 where
  pub db : Database
  pub are : trees ≡ db.trees
  pub sound : IsDatabase db
  pub held : List EventValue
  pub was : database.Holds old held
  pub more : List EventValue
  pub is : database.Holds db (held ++ more)
